-- One simplex, vertex or entry more.
use Rattle.std.proofs.Common.{◌≡◌, ℕ, zero, suc, ◌+◌, ◌-◌, ◌*◌, ◌<◌, ◌≤◌, Bool, true, false, not, IsTrue, Contains, ◌↔◌, nat_lt, List, [], ◌∷◌, ◌++◌, length, map, filter, flat_map, take, get_or, slice_set, cond, Option, Vec, Global, vec_items, take_all, inl, inr, refl, sym, ap, ◌∙◌, subst, arith, length-append, ltb-true}
use Rattle.std.specs.Prelude.{remove}
use Rattle.std.proofs.lemmas.Bool.{ltb-false}
use Rattle.std.proofs.lemmas.List.{length-map, map-append, take_more, take_more_set}
use Rattle.std.proofs.lemmas.List.Edits.{get_or-remove_below, get_or-remove_above, length-remove}
use Rattle.std.proofs.lemmas.List.FromFn.{length-range_with_len}
use Rattle.wf_model.specs.Lists.{below}
use Rattle.serde_json.specs.Data.{Data}
use Rattle.wf_model.specs.Simplex.{Simplex, Vertex, processes_of, values_of, complex_of}
use Rattle.wf_model.specs.Task.{Tuple, IsSimplexWithin}
use Rattle.wf_simplex.specs.Faces.{IsComplex}
use Rattle.wf_simplex.proofs.Lemmas.{Has, has_at_place, face_within, length-within, contains-has}
use Rattle.wf_task.specs.Borders.{borders_if, borders_of, place_before}
use Rattle.wf_task.specs.Canonical.{is_inner, facets, HasFewFacets, list_data, simplex_data, rule_data, keyed, task_data}
use Rattle.wf_task_parse.specs.Shape.{rule_of}
use Rattle.wf_task.specs.TaskSeen.{rules_seen, task_with_block}
use Rattle.wf_model.proofs.Lemmas.{length_filter}
use Rattle.wf_task.proofs.OneElementMore.{filter-passes, filter-fails}
use Rattle.wf_task.proofs.Faceted.{inner-border, border-inner, length-complex, within-complex, removed-part}
use Rattle.wf_task.proofs.Images.{nonempty-long, part-face}
use Rattle.wf_task.proofs.TaskSeen.{inputs-rules_seen}

-- a simplex is inner where the complex of the borders has it
pub inner_is : (complex inner : List Simplex) (s : Simplex) (b : Bool) → IsComplex complex → Has s complex → inner ≡ complex_of (flat_map borders_of complex) → (IsTrue b ↔ Contains inner s) → is_inner complex s ≡ b
inner_is complex inner s true h here is told =
    border-inner complex h s (subst (Has s) is (contains-has s inner (told.0 refl)))
inner_is complex inner s false h here is told = by (is_inner complex s) refl
  where
    by : (b : Bool) → is_inner complex s ≡ b → b ≡ false
    by false e = refl
    by true e = let none : false ≡ true = told.1 (has_at_place s inner (subst (Has s) (sym is) (inner-border complex h s here e))) in cc

pub has_get : (xs : List Simplex) (i : ℕ) (x : Simplex) → i < length xs → x ≡ get_or xs i x → Has x xs
has_get [] i x low is = absurd (let none : ⊥ = omega (arith, low) in none)
has_get (y ∷ ys) zero x low is = inl (sym is)
has_get (y ∷ ys) (suc i) x low is = inr (has_get ys i x (omega (arith, low)) is)

-- ---- how many borders

few_each : (b : Bool) (s : Simplex) → length s ≤ 4 → length (borders_if b s) ≤ 4
few_each true s h = omega (arith, length-map (below (length s)) (remove s), length-range_with_len 0 (length s), h)
few_each false s h = omega arith

few_all : (ss : List Simplex) → ((s : Simplex) → Has s ss → length s ≤ 4) → length (flat_map borders_of ss) ≤ length ss * 4
few_all [] h = omega arith
few_all (s ∷ ss) h = omega (arith, length-append (borders_of s) (flat_map borders_of ss), few_each (nat_lt 1 (length s)) s (h s (inl refl)), few_all ss (λ t g. h t (inr g)))

pub few_borders : (complex : List Simplex) → IsComplex complex → HasFewFacets complex → length (flat_map borders_of complex) ≤ 16777216
few_borders complex h few =
    omega (arith, few, length-complex complex h, few_all complex (λ s here. length-within 4 255 s (within-complex complex h s here)))

-- ---- one vertex more

pub pair_at : (s : Simplex) (i : ℕ) → i < length s → get_or s i (0, 0) ≡ (get_or (processes_of s) i 0, get_or (values_of s) i 0)
pair_at [] i h = absurd (let none : ⊥ = omega (arith, h) in none)
pair_at (v ∷ s) zero h = refl
pair_at (v ∷ s) (suc i) h = pair_at s i (omega (arith, h))

-- the vertex that stands there once one is left out
pub kept_vertex : (s : Simplex) (left i : ℕ) (v : Vertex) → left < length s → i < length s - 1 → v ≡ get_or s (place_before left i) (0, 0) → v ≡ get_or (remove s left) i (0, 0)
kept_vertex s left i v inside low is = is ∙ by (nat_lt i left) refl
  where
    by : (b : Bool) → nat_lt i left ≡ b → get_or s (cond b i (i + 1)) (0, 0) ≡ get_or (remove s left) i (0, 0)
    by true e = sym (get_or-remove_below s left (0, 0) i (ltb-true i left e) inside)
    by false e = sym (get_or-remove_above s left (0, 0) i (ltb-false i left e) inside)

pub kept_step : (pairs s : Simplex) (left i : ℕ) (v : Vertex) → left < length s → i < length s - 1 → i < length pairs → v ≡ get_or s (place_before left i) (0, 0)
    → take i pairs ≡ take i (remove s left) → take (i + 1) (slice_set pairs i v) ≡ take (i + 1) (remove s left)
kept_step pairs s left i v inside low room is made =
    let short : i < length (remove s left) = omega (arith, length-remove s left inside, low) in
    take_more_set pairs i v room ∙ (λ j. made j ++ kept_vertex s left i v inside low is j ∷ []) ∙ sym (take_more (remove s left) i (0, 0) short)

pub before_below : (left i n : ℕ) → left < n → i < n - 1 → place_before left i < n
before_below left i n inside low = by (nat_lt i left) refl
  where
    by : (b : Bool) → nat_lt i left ≡ b → cond b i (i + 1) < n
    by true e = omega (arith, low)
    by false e = omega (arith, low)

pub kept_within : (s : Simplex) (left : ℕ) → left < length s → 2 ≤ length s → IsSimplexWithin 4 255 s → IsSimplexWithin 4 255 (remove s left)
kept_within s left inside wide h =
    face_within 4 255 s (remove s left) h (part-face s (remove s left) (removed-part s left inside).0 (nonempty-long (remove s left) (omega (arith, length-remove s left inside, wide))))

pub kept_all : (pairs s : Simplex) (left n i : ℕ) → left < length s → n ≡ length s - 1 → n ≤ i → i ≤ n → take i pairs ≡ take i (remove s left) → take n pairs ≡ remove s left
kept_all pairs s left n i inside size past upto made =
    let all : i ≡ n = omega arith in
    ap (λ k. take k pairs) (sym all) ∙ made ∙ take_all i (remove s left) (omega (arith, length-remove s left inside, size, past))

-- ---- one entry more

pub rules_more : (ss : List Simplex) (vs : List (Vec Tuple Global)) (i : ℕ) (s : Simplex) (v : Vec Tuple Global) → length (map vec_items vs) ≡ length ss → i < length ss → s ≡ get_or ss i s → v ≡ get_or vs i v
    → take (i + 1) (rules_seen ss (map vec_items vs)) ≡ take i (rules_seen ss (map vec_items vs)) ++ rule_of s (vec_items v) ∷ []
rules_more [] vs i s v each low here there = absurd (let none : ⊥ = omega (arith, low) in none)
rules_more (t ∷ ss) [] i s v each low here there = absurd (let none : ⊥ = omega (arith, each) in none)
rules_more (t ∷ ss) (w ∷ vs) zero s v each low here there = λ j. rule_of (sym here j) (vec_items (sym there j)) ∷ []
rules_more (t ∷ ss) (w ∷ vs) (suc i) s v each low here there =
    let longer : suc i + 1 ≡ suc (i + 1) = omega arith in
    ap (λ k. take k (rules_seen (t ∷ ss) (map vec_items (w ∷ vs)))) longer
    ∙ ap (λ rest. rule_of t (vec_items w) ∷ rest) (rules_more ss vs i s v (let e : length (map vec_items vs) ≡ length ss = omega (arith, each) in e) (omega (arith, low)) here there)

pub mapped_more : {X Y Z : Type 0} (f : X → Z) (g : Y → Z) (xs : List X) (ys more : List Y) (x : X) (y : Y) → map f xs ≡ map g ys → f x ≡ g y → more ≡ ys ++ y ∷ [] → map f (xs ++ x ∷ []) ≡ map g more
mapped_more f g xs ys more x y so_far here is =
    map-append f xs (x ∷ []) ∙ (λ j. so_far j ++ here j ∷ []) ∙ sym (map-append g ys (y ∷ [])) ∙ ap (map g) (sym is)

-- ---- the whole value

pub value_is : (least_block : Option ℕ) (n : ℕ) (symmetric : Bool) (ss : List Simplex) (ts : List (List Tuple)) (os : List Simplex) (a b c : Data) → length ts ≡ length ss
    → a ≡ list_data simplex_data (facets ss) → b ≡ list_data simplex_data (facets os) → c ≡ list_data rule_data (rules_seen ss ts)
    → keyed least_block n symmetric a b c ≡ task_data (task_with_block least_block n symmetric ss ts os)
value_is least_block n symmetric ss ts os a b c each is_a is_b is_c =
    let first = is_a ∙ ap (λ us. list_data simplex_data (facets us)) (sym (inputs-rules_seen ss ts each)) in
    λ j. keyed least_block n symmetric (first j) (is_b j) (is_c j)

-- ---- one facet more

pub facet_step : (complex inner found next : List Simplex) (i : ℕ) (s : Simplex) (b : Bool) → IsComplex complex → i < length complex → s ≡ get_or complex i s → inner ≡ complex_of (flat_map borders_of complex) → (IsTrue b ↔ Contains inner s)
    → next ≡ cond b found (found ++ s ∷ []) → found ≡ filter (λ t. not (is_inner complex t)) (take i complex) → next ≡ filter (λ t. not (is_inner complex t)) (take (i + 1) complex)
facet_step complex inner found next i s b h low here is told then so_far =
    by b (inner_is complex inner s b h (has_get complex i s low here) is told) then
  where
    by : (b : Bool) → is_inner complex s ≡ b → next ≡ cond b found (found ++ s ∷ []) → next ≡ filter (λ t. not (is_inner complex t)) (take (i + 1) complex)
    by true inside then = then ∙ so_far ∙ sym (filter-fails (λ t. not (is_inner complex t)) complex i s s low here (ap not inside))
    by false outside then = then ∙ ap (λ xs. xs ++ s ∷ []) so_far ∙ sym (filter-passes (λ t. not (is_inner complex t)) complex i s s low here (ap not outside))

pub few_of : (complex : List Simplex) → length complex ≤ 4096 → HasFewFacets complex
few_of complex h = omega (arith, length_filter (λ s. not (is_inner complex s)) complex, h)
