-- Names of parts, one after the other.
use Rattle.std.proofs.Common.{◌≡◌, ℕ, suc, ◌+◌, ◌==◌, ◌||◌, ◌<◌, ◌≤◌, Bool, true, false, List, [], ◌∷◌, ◌++◌, cond, drop, get_or, length, inl, inr, refl, sym, ap, ◌∙◌, subst, arith, append_assoc, drop-cons, length-append}
use Rattle.std.proofs.Math.Seq.{get_or-append_seam}
use Rattle.std.proofs.lemmas.Bool.{cases_Bool, cases_eq, cases_lt, cond-true, cond-false, eqb-true}
use Rattle.std.proofs.lemmas.List.{drop_all, append-nil}
use Rattle.wf_model.specs.Lists.{has}
use Rattle.wf_model.specs.Task.{Tuple}
use Rattle.wf_tree_model.specs.Splits.{names_of, value_of_part}
use Rattle.wf_tree_model.specs.Tuples.{value_at}
use Rattle.wf_tree_refine.specs.Keys.{row_at}
use Rattle.wf_tree_refine.specs.Names.{AreNumbered, HasLargeName, most_name}

-- the names so far, and those to come
pub record IsNaming (place new : ℕ) (numbers : List ℕ) (parts : List (List Tuple)) (number : ℕ) (names : List ℕ) (next : ℕ) (seen : List ℕ) : Type 0 where
  pub below : (j : ℕ) → j < number → get_or numbers j 0 < length names
  pub rest : names_of place new [] parts ≡ names ++ names_of place next seen (drop (length names) parts)
  pub few : length names ≤ length parts

-- only which values were seen matters
names_alike : (place next : ℕ) (s u : List ℕ) (ps : List (List Tuple)) → ((v : ℕ) → has s v ≡ has u v) → names_of place next s ps ≡ names_of place next u ps
names_alike place next s u [] same = refl
names_alike place next s u (p ∷ ps) same =
    let v = value_of_part place p in
    elim (cases_Bool (has s v)) [
      | inl e ↦ cond-true (has s v) _ _ e ∙ ap (λ ns. next ∷ ns) (names_alike place (suc next) s u ps same) ∙ sym (cond-true (has u v) _ _ (sym (same v) ∙ e))
      | inr e ↦ cond-false (has s v) _ _ e ∙ ap (λ ns. v ∷ ns) (names_alike place next (v ∷ s) (v ∷ u) ps (λ w. ap (λ b. (v == w) || b) (same w))) ∙ sym (cond-false (has u v) _ _ (sym (same v) ∙ e))
    ]

or_known : (b c : Bool) → (c ≡ true → b ≡ true) → b ≡ (b || c)
or_known true c h = refl
or_known false true h = h refl
or_known false false h = refl

or_turn : (b c : Bool) → (c || b) ≡ (b || c)
or_turn true true = refl
or_turn true false = refl
or_turn false true = refl
or_turn false false = refl

one_name : (place next after name value : ℕ) (seen more : List ℕ) (p : List Tuple) (ps : List (List Tuple)) → value ≡ value_of_part place p → name ≡ cond (has seen value) next value → after ≡ cond (has seen value) (next + 1) next → ((v : ℕ) → has more v ≡ (has seen v || value == v))
    → names_of place next seen (p ∷ ps) ≡ name ∷ names_of place after more ps
one_name place next after name value seen more p ps here is then put =
    let v = value_of_part place p in
    elim (cases_Bool (has seen value)) [
      | inl e ↦
          let same : (w : ℕ) → has seen w ≡ has more w = λ w. or_known (has seen w) (value == w) (λ d. ap (has seen) (sym (eqb-true value w d)) ∙ e) ∙ sym (put w) in
          let one : name ≡ next = is ∙ cond-true (has seen value) next value e in
          let two : after ≡ suc next = then ∙ cond-true (has seen value) (next + 1) next e ∙ (let s : next + 1 ≡ suc next = omega arith in s) in
          cond-true (has seen v) _ _ (ap (has seen) (sym here) ∙ e) ∙ ap (λ ns. next ∷ ns) (names_alike place (suc next) seen more ps same)
          ∙ ap (λ n. n ∷ names_of place (suc next) more ps) (sym one) ∙ ap (λ n. name ∷ names_of place n more ps) (sym two)
      | inr e ↦
          let same : (w : ℕ) → has (v ∷ seen) w ≡ has more w = λ w. ap (λ u. (u == w) || has seen w) (sym here) ∙ or_turn (has seen w) (value == w) ∙ sym (put w) in
          let one : name ≡ v = is ∙ cond-false (has seen value) next value e ∙ here in
          let two : after ≡ next = then ∙ cond-false (has seen value) (next + 1) next e in
          cond-false (has seen v) _ _ (ap (has seen) (sym here) ∙ e) ∙ ap (λ ns. v ∷ ns) (names_alike place next (v ∷ seen) more ps same)
          ∙ ap (λ n. n ∷ names_of place next more ps) (sym one) ∙ ap (λ n. name ∷ names_of place n more ps) (sym two)
    ]

pub no_name : (place new : ℕ) (numbers : List ℕ) (parts : List (List Tuple)) (seen : List ℕ) → seen ≡ [] → IsNaming place new numbers parts 0 [] new seen
no_name place new numbers parts seen none = record {
  below = λ j low. absurd (let bad : ⊥ = omega (arith, low) in bad);
  rest = ap (λ s. names_of place new s parts) (sym none);
  few = omega arith;
}

module _ (place new : ℕ) (rows : List Tuple) (numbers : List ℕ) (parts : List (List Tuple)) (f : AreNumbered place rows numbers parts) where
  -- a tuple of a part that has its name
  pub old_name : (number : ℕ) (names : List ℕ) (next : ℕ) (seen : List ℕ) → number < length rows → (get_or numbers number 0 ≡ length names → ⊥) → IsNaming place new numbers parts number names next seen → IsNaming place new numbers parts (number + 1) names next seen
  old_name number names next seen inside away n = record {
    below = λ j low. elim (cases_eq j number) [
      | inl e ↦ subst (λ k. get_or numbers k 0 < length names) (sym e) (elim (cases_lt (length names) (get_or numbers number 0)) [
        | inl more ↦ (let r = f.met number (length names) inside more in let b = n.below r.0 r.1 in let is = r.2 in absurd (let bad : ⊥ = omega (arith, b, is) in bad))
        | inr less ↦ omega (arith, less, away)
      ])
      | inr ne ↦ n.below j (omega (arith, low, ne))
    ];
    rest = n.rest;
    few = n.few;
  }

  next_part : (number : ℕ) (names : List ℕ) → number < length rows → get_or numbers number 0 ≡ length names → length names < length parts
  next_part number names inside here = let k = f.known number inside in omega (arith, k, here)

  named_next : (number : ℕ) (names more : List ℕ) (name next after value : ℕ) (seen : List ℕ) → number < length rows → get_or numbers number 0 ≡ length names → value ≡ value_at (row_at rows number) place
      → name ≡ cond (has seen value) next value → after ≡ cond (has seen value) (next + 1) next → ((v : ℕ) → has more v ≡ (has seen v || value == v)) → IsNaming place new numbers parts number names next seen
      → names_of place new [] parts ≡ names ++ name ∷ names_of place after more (drop (suc (length names)) parts)
  named_next number names more name next after value seen inside here is one two put n =
      let k = length names in
      let low = next_part number names inside here in
      let part : value ≡ value_of_part place (get_or parts k []) = is ∙ sym (f.value number inside) ∙ ap (λ j. value_of_part place (get_or parts j [])) here in
      n.rest ∙ ap (λ ps. names ++ names_of place next seen ps) (drop-cons parts k [] low)
      ∙ ap (λ ns. names ++ ns) (one_name place next after name value seen more (get_or parts k []) (drop (suc k) parts) part one two put)

  -- the first tuple of a part
  pub new_part : (number : ℕ) (names longer more : List ℕ) (name next after value : ℕ) (seen : List ℕ) → number < length rows → get_or numbers number 0 ≡ length names → value ≡ value_at (row_at rows number) place
      → name ≡ cond (has seen value) next value → after ≡ cond (has seen value) (next + 1) next → ((v : ℕ) → has more v ≡ (has seen v || value == v)) → longer ≡ names ++ name ∷ []
      → IsNaming place new numbers parts number names next seen → IsNaming place new numbers parts (number + 1) longer after more
  new_part number names longer more name next after value seen inside here is one two put long n =
      let k = length names in
      let size : length longer ≡ suc k = ap length long ∙ simp length-append (omega arith) in
      let low = next_part number names inside here in
      record {
        below = λ j lj. elim (cases_eq j number) [
          | inl e ↦ subst (λ i. get_or numbers i 0 < length longer) (sym e) (omega (arith, here, size))
          | inr ne ↦ (let b = n.below j (omega (arith, lj, ne)) in omega (arith, b, size))
        ];
        rest = named_next number names more name next after value seen inside here is one two put n
            ∙ sym (append_assoc {A = ℕ} names (name ∷ []) (names_of place after more (drop (suc k) parts)))
            ∙ ap (λ ns. ns ++ names_of place after more (drop (suc k) parts)) (sym long)
            ∙ ap (λ j. longer ++ names_of place after more (drop j parts)) (sym size);
        few = omega (arith, size, low);
      }

  -- all parts have names
  pub all_named : (number : ℕ) (names : List ℕ) (next : ℕ) (seen : List ℕ) → length rows ≤ number → IsNaming place new numbers parts number names next seen → names ≡ names_of place new [] parts
  all_named number names next seen past n =
      let whole : length parts ≤ length names = elim (cases_lt (length names) (length parts)) [
        | inl less ↦ (let r = f.all (length names) less in let low = r.1 in let b = n.below r.0 (omega (arith, low, past)) in let is = r.2 in absurd (let bad : ⊥ = omega (arith, b, is) in bad))
        | inr e ↦ e
      ] in
      sym (n.rest ∙ ap (λ ps. names ++ names_of place next seen ps) (drop_all (length names) parts whole) ∙ append-nil names)

  -- a new name that is too large
  pub large_name : (number : ℕ) (names : List ℕ) (next value : ℕ) (seen : List ℕ) → number < length rows → length numbers ≡ length rows → get_or numbers number 0 ≡ length names → value ≡ value_at (row_at rows number) place
      → has seen value ≡ true → most_name < next → IsNaming place new numbers parts number names next seen → HasLargeName (names_of place new [] parts) numbers
  large_name number names next value seen inside each here is known large n =
      let rest = named_next number names seen next next (next + 1) value seen inside here is (sym (cond-true (has seen value) next value known)) (sym (cond-true (has seen value) (next + 1) next known))
      (λ w. or_known (has seen w) (value == w) (λ d. ap (has seen) (sym (eqb-true value w d)) ∙ known)) n in
      let tail = names_of place (next + 1) seen (drop (suc (length names)) parts) in
      let at : get_or (names_of place new [] parts) (get_or numbers number 0) 0 ≡ next = ap (λ ns. get_or ns (get_or numbers number 0) 0) rest ∙ ap (λ j. get_or (names ++ next ∷ tail) j 0) here ∙ get_or-append_seam names next tail 0 in
      (number, omega (arith, inside, each), subst (λ m. most_name < m) (sym at) large)

pub length-names_of : (place next : ℕ) (seen : List ℕ) (ps : List (List Tuple)) → length (names_of place next seen ps) ≡ length ps
length-names_of place next seen [] = refl
length-names_of place next seen (p ∷ ps) =
    let v = value_of_part place p in
    elim (cases_Bool (has seen v)) [
      | inl e ↦ ap length (cond-true (has seen v) _ _ e) ∙ ap suc (length-names_of place (suc next) seen ps)
      | inr e ↦ ap length (cond-false (has seen v) _ _ e) ∙ ap suc (length-names_of place next (v ∷ seen) ps)
    ]
