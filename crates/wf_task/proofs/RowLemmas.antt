-- Rows in order, and values as bits.
use Rattle.std.proofs.Common.{◌≡◌, ℕ, zero, suc, ◌+◌, ◌<◌, ◌≤◌, ◌==◌, ◌||◌, Bool, true, false, List, [], ◌∷◌, ◌++◌, length, map, take, get_or, Some, slice_index_or, take_all, nat_eq, inl, inr, refl, sym, ap, ◌∙◌, subst, arith, eqb-true, eq-eqb}
use Rattle.std.specs.declared.cmp.Ordering.TheVariants.{Equal}
use Rattle.std.specs.Ordering.{nat_cmp}
use Rattle.std.specs.Cmp.Lexicographic.{slice_cmp, pointwise, nat_list_cmp_total, texts_ties}
use Rattle.std.proofs.lemmas.Cmp.{nat_list_eq_equiv}
use Rattle.std.specs.List.Retain.{IsFiltered, DiffersFromLast}
use Rattle.std.specs.List.Sorted.{IsPermutation, IsSorted}
use Rattle.std.specs.List.{AllByRecursion}
use Rattle.std.proofs.lemmas.Bool.{cases_Bool, and_parts}
use Rattle.std.proofs.lemmas.List.{take_more, map-append, length-map}
use Rattle.std.proofs.lemmas.List.Folds.{list_any-append}
use Rattle.smallvec.specs.SmallVec.{SmallVec}
use Rattle.wf_model.specs.Lists.{has, in_order}
use Rattle.wf_model.specs.Simplex.{Simplex, processes_of, values_of, is_nonempty, is_ascending}
use Rattle.wf_model.specs.Task.{Tuple, IsSimplexWithin}
use Rattle.wf_model.proofs.Lemmas.{Ascends, ascends_from, or_none}
use Rattle.wf_simplex.specs.Entries.{value_at}
use Rattle.wf_simplex.specs.Order.{nat_cmp-Equal, slice_cmp-Equal}
use Rattle.wf_simplex.proofs.Lemmas.{in_order-dedup}
use Rattle.wf_base.specs.Set.Sets.{values_in}
use Rattle.wf_task.specs.Mask.{HasMore, IsMaskOf}

-- ---- rows

pub tuple_cmp-Equal : (s t : Tuple) → slice_cmp nat_cmp s t ≡ Equal → s ≡ t
tuple_cmp-Equal = slice_cmp-Equal nat_cmp nat_cmp-Equal

-- one more list
pub row_more : (rows new : List Tuple) (lists : List (SmallVec ℕ)) (i : ℕ) (list : SmallVec ℕ) (row : Tuple) → i < length lists → list ≡ slice_index_or lists i list → row ≡ list.items
    → rows ≡ map (λ t. t.items) (take i lists) → new ≡ rows ++ (row ∷ []) → new ≡ map (λ t. t.items) (take (i + 1) lists)
row_more rows new lists i list row inside is same so_far next =
    let longer = ap (map (λ t. t.items)) (take_more lists i list inside ∙ ap (λ l. take i lists ++ (l ∷ [])) (sym is)) ∙ map-append (λ t. t.items) (take i lists) (list ∷ []) in
    next ∙ (λ j. so_far j ++ (same j ∷ [])) ∙ sym longer

pub rows_sorted : (lists : List (SmallVec ℕ)) (i : ℕ) (rows sorted once : List Tuple) → length lists ≤ i → rows ≡ map (λ t. t.items) (take i lists)
    → IsPermutation rows sorted → IsSorted (slice_cmp nat_cmp) sorted → IsFiltered (DiffersFromLast (pointwise nat_eq)) [] sorted once
    → once ≡ in_order (slice_cmp nat_cmp) (map (λ t. t.items) lists)
rows_sorted lists i rows sorted once whole are moved ascend filtered =
    in_order-dedup (slice_cmp nat_cmp) nat_list_cmp_total tuple_cmp-Equal nat_list_eq_equiv texts_ties rows sorted once moved ascend filtered
    ∙ ap (in_order (slice_cmp nat_cmp)) (are ∙ ap (map (λ t. t.items)) (take_all i lists whole))

-- ---- the value of a process

later_process : (p x i : ℕ) (s : Simplex) → AllByRecursion (λ q. p < q) (processes_of s) → i < length s → (p == get_or (processes_of s) i 0) ≡ false
later_process p x i [] h within = absurd (let none : ⊥ = omega (arith, within) in none)
later_process p x zero (v ∷ s) h within = elim (cases_Bool (p == v.0)) [ inl same ↦ absurd (let none : ⊥ = omega (arith, h.0, eqb-true p v.0 same) in none) | inr apart ↦ apart ]
later_process p x (suc i) (v ∷ s) h within = later_process p x i s h.1 (omega (arith, within))

at_process : (s : Simplex) (i : ℕ) → Ascends (processes_of s) → i < length s → value_at s (get_or (processes_of s) i 0) ≡ Some (get_or (values_of s) i 0)
at_process [] i h within = absurd (let none : ⊥ = omega (arith, within) in none)
at_process (v ∷ s) zero h within = rw (eq-eqb v.0 v.0 refl) refl
at_process (v ∷ s) (suc i) h within = rw (later_process v.0 0 i s h.0 (omega (arith, within))) (at_process s i h.1 (omega (arith, within)))

-- the process at a place has the value at that place
pub value_there : (s : Simplex) (i : ℕ) → IsSimplexWithin 4 255 s → i < length s → value_at s (get_or (processes_of s) i 0) ≡ Some (get_or (values_of s) i 0)
value_there s i h within = at_process s i (ascends_from (processes_of s) (and_parts (is_nonempty s) (is_ascending (processes_of s)) h.is_simplex).1) within

-- ---- bits

has_joined : (xs ys : List ℕ) (v : ℕ) → has (xs ++ ys) v ≡ (has xs v || has ys v)
has_joined xs ys v = list_any-append (λ y. y == v) xs ys

or_turned : (a b c : Bool) → ((a || b) || c) ≡ (a || (b || c))
or_turned true b c = refl
or_turned false b c = refl

-- a value more
pub more-one : (first set more : List ℕ) (x : ℕ) (xs : List ℕ) → HasMore first xs set → ((v : ℕ) → has (values_in more) v ≡ (has (values_in set) v || x == v)) → HasMore first (xs ++ (x ∷ [])) more
more-one first set more x xs so_far added v =
    added v ∙ ap (λ b. b || (x == v)) (so_far v) ∙ or_turned (has (values_in first) v) (has xs v) (x == v)
    ∙ ap (λ b. has (values_in first) v || b) (ap (λ b. has xs v || b) (sym (or_none (x == v))) ∙ sym (has_joined xs (x ∷ []) v))

-- a list more
pub mask-append : (set more : List ℕ) (xs ys : List ℕ) → IsMaskOf set xs → HasMore set ys more → IsMaskOf more (xs ++ ys)
mask-append set more xs ys same added v = added v ∙ ap (λ b. b || has ys v) (same v) ∙ sym (has_joined xs ys v)

-- one vertex more
pub vertex_more : (first set more : List ℕ) (s : Simplex) (i x : ℕ) → i < length s → x ≡ get_or (values_of s) i 0 → HasMore first (take i (values_of s)) set → ((v : ℕ) → has (values_in more) v ≡ (has (values_in set) v || x == v)) → HasMore first (take (i + 1) (values_of s)) more
vertex_more first set more s i x inside is so_far added =
    let long : i < length (values_of s) = omega (arith, inside, length-map s (λ (v : ℕ × ℕ). v.1)) in
    let longer = take_more (values_of s) i 0 long ∙ ap (λ y. take i (values_of s) ++ (y ∷ [])) (sym is) in
    subst (λ xs. HasMore first xs more) (sym longer) (more-one first set more x (take i (values_of s)) so_far added)
