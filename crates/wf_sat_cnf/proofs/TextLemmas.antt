-- Variables within a machine word, and texts that grow clause by clause.
use Rattle.std.proofs.Common.{◌≡◌, ℕ, zero, suc, ◌+◌, ◌*◌, ◌<◌, ◌≤◌, ◌==◌, min, nat_lt, Bool, true, false, cond, List, [], ◌∷◌, ◌++◌, map, filter, flat_map, zip, length, get_or, slice_index, inl, inr, refl, sym, ap, ◌∙◌, subst, arith, append_assoc, length-append, Some, slice_get}
use Rattle.std.specs.List.{AllByRecursion, range_with_len, slice_index_or}
use Rattle.std.proofs.Math.Nat.{mul-le-mul_right}
use Rattle.std.proofs.lemmas.Bool.{cases_Bool, cases_order, lt-ltb, le-ltb, eq-eqb, ne_eqb}
use Rattle.std.proofs.lemmas.List.{append-nil, map-append, get_or-map, length-map}
use Rattle.std.proofs.lemmas.List.Concat.{flat_map-append}
use Rattle.std.proofs.lemmas.Slice.Zip.{length-zip, get_or-zip}
use Rattle.wf_model.specs.Limits.{most_points}
use Rattle.wf_model.specs.Lists.{below, has}
use Rattle.wf_model.proofs.Lemmas.{Ascends, below_next, length-below}
use Rattle.wf_complex.proofs.Lemmas.{got}
use Rattle.wf_base.specs.Set.Sets.{values_in, holds}
use Rattle.wf_base.proofs.OfSet.Lemmas.{values_ascend}
use Rattle.wf_sat_text.specs.Clauses.Formula.{Clause}
use Rattle.wf_sat_check.specs.Rup.Codes.{most_variables}
use Rattle.wf_sat_formula.specs.Patterns.{Pattern}
use Rattle.wf_sat_formula.specs.Encoding.{rank_in, variable}
use Rattle.wf_sat_formula.proofs.Lemmas.{rank_most}
use Rattle.wf_sat_formula.specs.Dimacs.{clause_text, literal_text}
use Rattle.wf_sat_cnf.specs.Clauses.{HasPoints}
use Rattle.wf_sat_cnf.specs.Tokens.{clause_tokens, formula_tokens, token_text, tokens_text}

-- ---- numbers

fewer : {X : Type 0} (p : X → Bool) (xs : List X) → length (filter p xs) ≤ length xs
fewer p [] = omega arith
fewer p (x ∷ xs) = elim (cases_Bool (p x)) [ inl pass ↦ rw pass (omega (arith, fewer p xs)) | inr fail ↦ rw fail (omega (arith, fewer p xs)) ]

pub few_values : (set : List ℕ) → length (values_in set) ≤ 256
unfolding values_in
few_values set = omega (arith, fewer (holds set) (below 256), length-below 256)

pub few_ranks : (set : List ℕ) (a : ℕ) → rank_in (values_in set) a ≤ 256
few_ranks set a = omega (arith, rank_most (values_in set) a, few_values set)

pub product_few : (point width : ℕ) → point < 2000000 → width ≤ 256 → point * width ≤ 512000000
product_few point width h k =
    let a : point * width ≤ 2000000 * width = mul-le-mul_right {m = point} {n = 2000000} width (omega (arith, h)) in
    omega (arith, a, k)

-- ---- ranks

later_none : (xs : List ℕ) (v : ℕ) → AllByRecursion (λ y. v < y) xs → (rank_in xs (v + 1) ≡ 0) × (rank_in xs v ≡ 0) × (has xs v ≡ false)
later_none [] v h = (refl, refl, refl)
later_none (x ∷ xs) v h =
    let rest = later_none xs v h.1 in
    let above : nat_lt x (v + 1) ≡ false = le-ltb x (v + 1) (omega (arith, h.0)) in
    let over : nat_lt x v ≡ false = le-ltb x v (omega (arith, h.0)) in
    let other : (x == v) ≡ false = ne_eqb x v (λ e. let none : ⊥ = omega (arith, e, h.0) in none) in
    (rw above rest.0, rw over rest.1, rw other rest.2)

-- one number on: one more is smaller, if it is a value
rank_step : (xs : List ℕ) (v : ℕ) → Ascends xs → rank_in xs (v + 1) ≡ rank_in xs v + cond (has xs v) 1 0
rank_step [] v h = refl
rank_step (x ∷ xs) v h =
    elim (cases_order x v) [
      | inl same ↦
          let none = later_none xs v (subst (λ u. AllByRecursion (λ y. u < y) xs) same h.0) in
          let above : nat_lt x (v + 1) ≡ true = lt-ltb x (v + 1) (omega (arith, same)) in
          let over : nat_lt x v ≡ false = le-ltb x v (omega (arith, same)) in
          let this : (x == v) ≡ true = eq-eqb x v same in
          rw (above, over, this) (let a = none.0 in let b = none.1 in omega (arith, a, b))
      | inr apart ↦ elim apart [
        | inl less ↦
            let above : nat_lt x (v + 1) ≡ true = lt-ltb x (v + 1) (omega (arith, less)) in
            let over : nat_lt x v ≡ true = lt-ltb x v less in
            let other : (x == v) ≡ false = ne_eqb x v (λ e. let none : ⊥ = omega (arith, e, less) in none) in
            rw (above, over, other) (ap suc (rank_step xs v h.1) ∙ (let e : suc (rank_in xs v + cond (has xs v) 1 0) ≡ suc (rank_in xs v) + cond (has xs v) 1 0 = omega arith in e))
        | inr more ↦
            let above : nat_lt x (v + 1) ≡ false = le-ltb x (v + 1) (omega (arith, more)) in
            let over : nat_lt x v ≡ false = le-ltb x v (omega (arith, more)) in
            let other : (x == v) ≡ false = ne_eqb x v (λ e. let none : ⊥ = omega (arith, e, more) in none) in
            rw (above, over, other) (rank_step xs v h.1)
      ]
    ]

pub next_rank : (set : List ℕ) (v : ℕ) → rank_in (values_in set) (v + 1) ≡ rank_in (values_in set) v + cond (has (values_in set) v) 1 0
next_rank set v = rank_step (values_in set) v (values_ascend set)

no_smaller : (xs : List ℕ) → rank_in xs 0 ≡ 0
no_smaller [] = refl
no_smaller (x ∷ xs) = let over : nat_lt x 0 ≡ false = le-ltb x 0 (omega arith) in rw over (no_smaller xs)

pub rank_of_none : (set : List ℕ) → 0 ≡ rank_in (values_in set) 0
rank_of_none set = sym (no_smaller (values_in set))

pub ranks_more : (f : ℕ → ℕ) (n : ℕ) (before after : List ℕ) (x : ℕ) → after ≡ before ++ x ∷ [] → x ≡ f n → before ≡ map f (below n) → after ≡ map f (below (n + 1))
ranks_more f n before after x pushed is so_far =
    pushed ∙ (λ i. so_far i ++ is i ∷ []) ∙ sym (map-append f (below n) (n ∷ [])) ∙ ap (map f) (sym (below_next n))

pub rank_there : (f : ℕ → ℕ) (n a : ℕ) (ranks : List ℕ) → ranks ≡ map f (below n) → a < n → slice_index ranks a ≡ f a
rank_there f n a ranks is low =
    ap (λ rs. slice_index rs a) is
    ∙ get_or-map f (below n) a 0 0 (omega (arith, low, length-below n))
    ∙ ap f (number_at 0 n a low ∙ (let e : 0 + a ≡ a = omega arith in e))
  where
    number_at : (c n i : ℕ) → i < n → get_or (range_with_len c n) i 0 ≡ c + i
    number_at c zero i h = absurd (let none : ⊥ = omega (arith, h) in none)
    number_at c (suc n) zero h = omega arith
    number_at c (suc n) (suc i) h = let e = number_at (c + 1) n i (omega (arith, h)) in omega (arith, e)

-- ---- the text of a formula's tokens

text_of_clause : (clause : Clause) → tokens_text (clause_tokens clause) ≡ clause_text clause
text_of_clause [] = refl
text_of_clause (literal ∷ clause) =
    ap (λ bs. literal_text literal ++ bs) (text_of_clause clause) ∙ sym (append_assoc (literal_text literal) (flat_map literal_text clause) (48 ∷ 10 ∷ []))

pub text_of_tokens : (clauses : List Clause) → tokens_text (formula_tokens clauses) ≡ flat_map clause_text clauses
text_of_tokens [] = refl
text_of_tokens (clause ∷ clauses) =
    flat_map-append token_text (clause_tokens clause) (formula_tokens clauses) ∙ (λ i. text_of_clause clause i ++ text_of_tokens clauses i)

-- ---- one literal more

pub entry_at : (places values points : List ℕ) (at size : ℕ) → at < size → size ≡ min (length places) (length values) → HasPoints points (zip places values)
    → slice_index places at < length points
entry_at places values points at size low is h =
    let inside : at < length (zip places values) = omega (arith, low, is, length-zip places values) in
    let first : at < length places = omega (arith, low, is) in
    let second : at < length values = omega (arith, low, is) in
    let e = get_or-zip places values at (0, 0) first second in
    subst (λ (p : ℕ × ℕ). p.0 < length points) e (h at (0, 0) inside)

-- ---- the patterns of an execution

pub pattern_there : {X : Type 0} (seen : X → List Pattern) (patterns : List X) (simplices : List ℕ) (e s : ℕ) (x : X) → slice_get simplices e ≡ Some s → slice_index simplices e < length (map seen patterns) → x ≡ get_or patterns s x
    → seen x ≡ slice_index_or (map seen patterns) (slice_index simplices e) []
pattern_there seen patterns simplices e s x there low is =
    let at : slice_index simplices e ≡ s = got simplices e s 0 there in
    let within : s < length patterns = omega (arith, low, at, length-map patterns seen) in
    ap seen is ∙ sym (get_or-map seen patterns s x [] within) ∙ ap (λ n. slice_index_or (map seen patterns) n []) (sym at)

pub length_more : (f : ℕ → List Clause) (n : ℕ) → length (flat_map f (below (n + 1))) ≡ length (flat_map f (below n)) + length (f n)
length_more f n =
    ap length (ap (flat_map f) (below_next n) ∙ flat_map-append f (below n) (n ∷ []) ∙ ap (λ cs. flat_map f (below n) ++ cs) (append-nil (f n)))
    ∙ length-append (flat_map f (below n)) (f n)

pub product_upto : (points width : ℕ) → points ≤ 2000000 → width ≤ 256 → points * width ≤ 512000000
product_upto points width h k =
    let a : points * width ≤ 2000000 * width = mul-le-mul_right {m = points} {n = 2000000} width h in
    omega (arith, a, k)

pub few_variables : (set : List ℕ) (point a : ℕ) → point < most_points → variable (values_in set) point a ≤ most_variables
few_variables set point a low = omega (arith, product_few point (length (values_in set)) low (few_values set), few_ranks set a)
