-- Value lists beside the processes of a simplex.
use Rattle.std.proofs.Common.{◌≡◌, ℕ, zero, suc, ◌+◌, ◌<◌, ◌≤◌, Bool, true, false, ◌||◌, List, [], ◌∷◌, length, map, take, zip, All, slice_index_or, slice_set, Some, None, Option, drop, drop-cons, flat_map, append-nil, add-one, ◌==◌, not, cond, eqb-true, refl, sym, ap, ap₂, ◌∙◌, subst, arith}
use Rattle.std.specs.List.{position_from, list_any}
use Rattle.std.proofs.lemmas.List.{get_or_default, get_or-map, length-map}
use Rattle.std.proofs.lemmas.List.Elements.{All-nil, All-cons, All-head, All-tail, All-append, All-get_or, All-weaker}
use Rattle.wf_model.specs.Simplex.{Simplex, processes_of, values_of, is_nonempty, is_ascending, complex_of}
use Rattle.wf_model.specs.Task.{Rule, Tuple, IsSimplexWithin}
use Rattle.wf_simplex.specs.Order.{same_simplex}
use Rattle.std.proofs.lemmas.Bool.{and_parts, and_from, or_parts, not-false}
use Rattle.wf_task.specs.declared.slots.EntryCount.{EntryCount}
use Rattle.wf_task.specs.declared.slots.EntryCount.TheVariants.{Missing, Once, Twice}
use Rattle.wf_task_parse.specs.RawTask.{Listed}
use Rattle.wf_task_parse.specs.Shape.{rule_of}
use Rattle.wf_task.specs.Slots.{entries_in, lists_at, IsOnly, IsOnceBelow, AreOnly}
use Rattle.wf_task.specs.Judge.{is_large, has_large, rule_has_large, some_large, is_among, tuples_for, wrong_length, no_output, answer_or, first_answer}
use Rattle.wf_task.specs.Tuples.{IsTupleOf, AreTuples}
use Rattle.wf_task.proofs.Judged.{small_values, limit_of, limit-few}
use Rattle.wf_task.proofs.Sizes.{copied}

-- ---- the simplex on some processes with these values

processes-zip : (s : Simplex) (xs : List ℕ) → length xs ≡ length s → processes_of (zip (processes_of s) xs) ≡ processes_of s
processes-zip [] [] h = refl
processes-zip [] (x ∷ xs) h = refl
processes-zip (v ∷ s) [] h = absurd (let none : ⊥ = omega (arith, h) in none)
processes-zip (v ∷ s) (x ∷ xs) h = ap (λ ps. v.0 ∷ ps) (processes-zip s xs (omega (arith, h)))

values-zip : (s : Simplex) (xs : List ℕ) → length xs ≡ length s → values_of (zip (processes_of s) xs) ≡ xs
values-zip [] [] h = refl
values-zip [] (x ∷ xs) h = absurd (let none : ⊥ = omega (arith, h) in none)
values-zip (v ∷ s) [] h = absurd (let none : ⊥ = omega (arith, h) in none)
values-zip (v ∷ s) (x ∷ xs) h = ap (λ ys. x ∷ ys) (values-zip s xs (omega (arith, h)))

pub length-zip_processes : (s : Simplex) (xs : List ℕ) → length xs ≡ length s → length (zip (processes_of s) xs) ≡ length s
length-zip_processes [] [] h = refl
length-zip_processes [] (x ∷ xs) h = refl
length-zip_processes (v ∷ s) [] h = absurd (let none : ⊥ = omega (arith, h) in none)
length-zip_processes (v ∷ s) (x ∷ xs) h = ap suc (length-zip_processes s xs (omega (arith, h)))

nonempty-zip : (s : Simplex) (xs : List ℕ) → length xs ≡ length s → is_nonempty s ≡ true → is_nonempty (zip (processes_of s) xs) ≡ true
nonempty-zip [] xs h some = cc
nonempty-zip (v ∷ s) [] h some = absurd (let none : ⊥ = omega (arith, h) in none)
nonempty-zip (v ∷ s) (x ∷ xs) h some = refl

pub zip_within : (n : ℕ) (s : Simplex) (xs : List ℕ) → IsSimplexWithin n 255 s → IsTupleOf (length s) xs → IsSimplexWithin n 255 (zip (processes_of s) xs)
zip_within n s xs h tuple = record {
  is_simplex = and_from (is_nonempty (zip (processes_of s) xs)) (is_ascending (processes_of (zip (processes_of s) xs)))
      (nonempty-zip s xs tuple.long (and_parts (is_nonempty s) (is_ascending (processes_of s)) h.is_simplex).0)
      (ap is_ascending (processes-zip s xs tuple.long) ∙ (and_parts (is_nonempty s) (is_ascending (processes_of s)) h.is_simplex).1);
  processes = subst (All (λ p. p < n)) (sym (processes-zip s xs tuple.long)) h.processes;
  values = subst (All (λ x. x ≤ 255)) (sym (values-zip s xs tuple.long)) tuple.small;
}

zip_at : (s : Simplex) (xs : List ℕ) (i : ℕ) → i < length s → length xs ≡ length s → slice_index_or (zip (processes_of s) xs) i (0, 0) ≡ (slice_index_or (processes_of s) i 0, slice_index_or xs i 0)
zip_at [] xs i h long = absurd (let none : ⊥ = omega (arith, h) in none)
zip_at (v ∷ s) [] i h long = absurd (let none : ⊥ = omega (arith, long) in none)
zip_at (v ∷ s) (x ∷ xs) zero h long = refl
zip_at (v ∷ s) (x ∷ xs) (suc i) h long = zip_at s xs i (omega (arith, h)) (omega (arith, long))

-- one pair more
pub paired : (pairs : Simplex) (s : Simplex) (xs : List ℕ) (i p x : ℕ) → i < length pairs → i < length s → length xs ≡ length s
    → take i pairs ≡ take i (zip (processes_of s) xs) → p ≡ slice_index_or (processes_of s) i 0 → x ≡ slice_index_or xs i 0
    → take (i + 1) (slice_set pairs i (p, x)) ≡ take (i + 1) (zip (processes_of s) xs)
paired pairs s xs i p x inside within long same process value =
    let here = zip_at s xs i within long in
    let pair : (p, x) ≡ slice_index_or (zip (processes_of s) xs) i (0, 0) = (λ j. (process j, value j)) ∙ sym here in
    ap (λ q. take (i + 1) (slice_set pairs i q)) pair ∙ copied pairs (zip (processes_of s) xs) i inside (omega (arith, within, length-zip_processes s xs long)) same

-- ---- one element of a list that is seen by f

-- what all have, this one has
pub seen_here : {X Y : Type 0} (P : Y → Type 0) (f : X → Y) (xs : List X) (i : ℕ) (x : X) → i < length xs → x ≡ slice_index_or xs i x → All P (map f xs) → P (f x)
seen_here P f xs i x inside is all =
    let shorter : i < length (map f xs) = omega (arith, inside, length-map xs f) in
    subst P (get_or-map f xs i x (f x) inside ∙ ap f (sym is)) (All-get_or P (map f xs) i (f x) shorter all)

-- the first that passes the test, seen from its place on
pub first_here : {X Y : Type 0} (p : Y → Bool) (f : X → Y) (xs : List X) (i : ℕ) (x : X) → i < length xs → x ≡ slice_index_or xs i x → p (f x) ≡ true → Some i ≡ position_from p i (map f (drop i xs))
first_here p f xs i x inside is passes =
    let front : drop i xs ≡ x ∷ drop (suc i) xs = drop-cons xs i x inside ∙ ap (λ y. y ∷ drop (suc i) xs) (sym is) in
    rw front (rw passes refl)

pub first_later : {X Y : Type 0} (p : Y → Bool) (f : X → Y) (xs : List X) (i : ℕ) (x : X) → i < length xs → x ≡ slice_index_or xs i x → p (f x) ≡ false
    → position_from p (i + 1) (map f (drop (i + 1) xs)) ≡ position_from p i (map f (drop i xs))
first_later p f xs i x inside is fails =
    let front : drop i xs ≡ x ∷ drop (suc i) xs = drop-cons xs i x inside ∙ ap (λ y. y ∷ drop (suc i) xs) (sym is) in
    rw front (rw (add-one, fails) refl)

-- ---- the lists that the slots name

pub lists-only : (slots : List EntryCount) (rules : List Rule) (inputs : List Simplex) (i : ℕ) → AreOnly slots rules inputs → i < length inputs
    → lists_at (slice_index_or slots i Missing) rules ≡ flat_map (λ rule. rule.tuples) (entries_in rules (slice_index_or inputs i []))
lists-only slots rules inputs i h inside = by (slice_index_or slots i Missing) (h.each i inside)
  where
    by : (slot : EntryCount) → IsOnly slot rules (slice_index_or inputs i []) → lists_at slot rules ≡ flat_map (λ rule. rule.tuples) (entries_in rules (slice_index_or inputs i []))
    by Missing none = absurd none
    by (Once k) only = sym (ap (flat_map (λ rule. rule.tuples)) only.1 ∙ append-nil (slice_index_or rules k (rule_of [] [])).tuples)
    by Twice none = absurd none

pub once-only : (slots : List EntryCount) (rules : List Rule) (inputs : List Simplex) (i : ℕ) → AreOnly slots rules inputs → i < length inputs → IsOnceBelow (length rules) (slice_index_or slots i Missing)
once-only slots rules inputs i h inside = by (slice_index_or slots i Missing) (h.each i inside)
  where
    by : (slot : EntryCount) → IsOnly slot rules (slice_index_or inputs i []) → IsOnceBelow (length rules) slot
    by Missing none = none
    by (Once k) only = only.0
    by Twice none = none

-- the lists at a slot are those for its simplex
pub lists_here : (slots : List EntryCount) (delta seen : List Rule) (inputs : List Simplex) (i : ℕ) (lists : List Tuple) → AreOnly slots delta inputs → i < length inputs
    → lists ≡ lists_at (slice_index_or slots i Missing) seen → seen ≡ delta → lists ≡ flat_map (λ rule. rule.tuples) (entries_in delta (slice_index_or inputs i []))
lists_here slots delta seen inputs i lists h inside is same = is ∙ ap (lists_at (slice_index_or slots i Missing)) same ∙ lists-only slots delta inputs i h inside

-- the simplex at a place, whatever stands past the end
pub simplex_here : (inputs : List Simplex) (i : ℕ) (s : Simplex) → i < length inputs → s ≡ slice_index_or inputs i s → s ≡ slice_index_or inputs i []
simplex_here inputs i s inside is = is ∙ get_or_default inputs i s [] inside

pub not_some : {X : Type 0} (o : Option X) → ((x : X) → o ≡ Some x → ⊥) → o ≡ None
not_some None h = refl
not_some (Some x) h = absurd (h x refl)

pub wrong_is : (listed : Listed) (s t : Simplex) (lists : List Tuple) (size : ℕ) (found : Option ℕ) → found ≡ position_from (λ tuple. not (length tuple == size)) 0 lists
    → lists ≡ tuples_for listed s → size ≡ length t → t ≡ s → wrong_length listed s ≡ found
wrong_is listed s t lists size found is same count here =
    sym (is ∙ ap₂ (λ n ls. position_from (λ tuple. not (length tuple == n)) 0 ls) (count ∙ ap length here) same)

pub no_output_is : (listed : Listed) (s t : Simplex) (lists : List Tuple) (outputs : List Simplex) (found : Option ℕ)
    → found ≡ position_from (λ tuple. not (is_among outputs (zip (processes_of t) tuple))) 0 lists
    → lists ≡ tuples_for listed s → outputs ≡ complex_of listed.outputs → t ≡ s → no_output listed s ≡ found
no_output_is listed s t lists outputs found is same complex here =
    sym (is ∙ ap (λ u. position_from (λ tuple. not (is_among outputs (zip (processes_of u) tuple))) 0 lists) here
    ∙ ap₂ (λ os ls. position_from (λ tuple. not (is_among os (zip (processes_of s) tuple))) 0 ls) complex same)

-- ---- the first simplex that has an answer

pub answer_here : (f : Simplex → Option ℕ) (inputs : List Simplex) (i k : ℕ) → i < length inputs → f (slice_index_or inputs i []) ≡ Some k → Some (i, k) ≡ first_answer f i (drop i inputs)
answer_here f inputs i k inside is = rw (drop-cons inputs i [] inside) (rw is refl)

pub answer_later : (f : Simplex → Option ℕ) (inputs : List Simplex) (i : ℕ) → i < length inputs → f (slice_index_or inputs i []) ≡ None → first_answer f (i + 1) (drop (i + 1) inputs) ≡ first_answer f i (drop i inputs)
answer_later f inputs i inside is = rw (drop-cons inputs i [] inside) (rw (add-one, is) refl)

answer_none : (o : Option ℕ) (n : ℕ) (rest : Option (ℕ × ℕ)) → answer_or o n rest ≡ None → (o ≡ None) × (rest ≡ None)
answer_none None n rest h = (refl, h)
answer_none (Some k) n rest h = cc

-- where none has an answer, each has none
pub no_answer : (f : Simplex → Option ℕ) (n : ℕ) (inputs : List Simplex) → first_answer f n inputs ≡ None → (i : ℕ) → i < length inputs → f (slice_index_or inputs i []) ≡ None
no_answer f n [] h i inside = absurd (let none : ⊥ = omega (arith, inside) in none)
no_answer f n (s ∷ inputs) h zero inside = (answer_none (f s) n (first_answer f (n + 1) inputs) h).0
no_answer f n (s ∷ inputs) h (suc i) inside = no_answer f (n + 1) inputs (answer_none (f s) n (first_answer f (n + 1) inputs) h).1 i (omega (arith, inside))

-- where the first that passes is none, none passes
pub none_passes : {X : Type 0} (p : X → Bool) (n : ℕ) (xs : List X) → position_from p n xs ≡ None → All (λ x. p x ≡ false) xs
none_passes p n [] h = All-nil (λ x. p x ≡ false)
none_passes {X = X} p n (x ∷ xs) h = by (λ g. none_passes p (n + 1) xs g) (p x) refl h
  where
    by : (position_from p (n + 1) xs ≡ None → All (λ y. p y ≡ false) xs) → (b : Bool) → p x ≡ b → cond b (Some n) (position_from p (n + 1) xs) ≡ None → All (λ y. p y ≡ false) (x ∷ xs)
    by deeper true is h = cc
    by deeper false is h = All-cons (λ y. p y ≡ false) x xs is (deeper h)

-- ---- value lists without a fault are tuples

lists_small : (m : ℕ) (ts : List Tuple) → m ≤ 255 → list_any (list_any (is_large m)) ts ≡ false → All (All (λ x. x ≤ 255)) ts
lists_small m [] few h = All-nil (All (λ x. x ≤ 255))
lists_small m (t ∷ ts) few h =
    All-cons (All (λ x. x ≤ 255)) t ts
    (All-weaker (λ x. x ≤ m) (λ x. x ≤ 255) (λ x low. omega (arith, low, few)) t (small_values m t (or_parts (list_any (is_large m) t) (list_any (list_any (is_large m)) ts) h).0))
    (lists_small m ts few (or_parts (list_any (is_large m) t) (list_any (list_any (is_large m)) ts) h).1)

tuples_small : (m : ℕ) (rules : List Rule) (s : Simplex) → m ≤ 255 → list_any (rule_has_large m) rules ≡ false → All (All (λ x. x ≤ 255)) (flat_map (λ rule. rule.tuples) (entries_in rules s))
tuples_small m [] s few h = All-nil (All (λ x. x ≤ 255))
tuples_small m (rule ∷ rules) s few h =
    by (same_simplex rule.input s)
    (lists_small m rule.tuples few (or_parts (has_large m rule.input) (list_any (list_any (is_large m)) rule.tuples) (or_parts (rule_has_large m rule) (list_any (rule_has_large m) rules) h).0).1)
    (tuples_small m rules s few (or_parts (rule_has_large m rule) (list_any (rule_has_large m) rules) h).1)
  where
    by : (b : Bool) → All (All (λ x. x ≤ 255)) rule.tuples → All (All (λ x. x ≤ 255)) (flat_map (λ rule. rule.tuples) (entries_in rules s))
        → All (All (λ x. x ≤ 255)) (flat_map (λ rule. rule.tuples) (cond b (rule ∷ entries_in rules s) (entries_in rules s)))
    by true here rest = All-append (All (λ x. x ≤ 255)) rule.tuples (flat_map (λ rule. rule.tuples) (entries_in rules s)) here rest
    by false here rest = rest

both : (n : ℕ) (ts : List Tuple) → All (λ t. not (length t == n) ≡ false) ts → All (All (λ x. x ≤ 255)) ts → All (IsTupleOf n) ts
both n [] long small = All-nil (IsTupleOf n)
both n (t ∷ ts) long small =
    All-cons (IsTupleOf n) t ts
    (record { long = eqb-true (length t) n (not-false (length t == n) (All-head (λ t. not (length t == n) ≡ false) t ts long)); small = All-head (All (λ x. x ≤ 255)) t ts small })
    (both n ts (All-tail (λ t. not (length t == n) ≡ false) t ts long) (All-tail (All (λ x. x ≤ 255)) t ts small))

pub are_tuples : (listed : Listed) (inputs : List Simplex) → first_answer (wrong_length listed) 0 inputs ≡ None → some_large listed ≡ false → AreTuples listed inputs
are_tuples listed inputs none small = record {
  each = λ i inside. both (length (slice_index_or inputs i [])) (tuples_for listed (slice_index_or inputs i []))
      (none_passes (λ tuple. not (length tuple == length (slice_index_or inputs i []))) 0 (tuples_for listed (slice_index_or inputs i [])) (no_answer (wrong_length listed) 0 inputs none i inside))
      (let m = limit_of listed in
      tuples_small m listed.delta (slice_index_or inputs i []) (limit-few listed.least_block) (or_parts (list_any (has_large m) listed.inputs || list_any (has_large m) listed.outputs) (list_any (rule_has_large m) listed.delta) small).1);
}
