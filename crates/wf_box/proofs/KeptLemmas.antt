-- Sets of which each value has its bit in one machine word.
use Rattle.std.proofs.Common.{◌≡◌, ℕ, zero, suc, ◌+◌, ◌<◌, ◌≤◌, ◌==◌, ◌&&◌, Bool, true, false, cond, List, [], ◌∷◌, map, filter, length, get_or, Some, None, refl, sym, ap, ◌∙◌, arith, ⊎_elim}
use Rattle.std.specs.Prelude.{nat_lt, position}
use Rattle.std.specs.List.{list_all, position_or_len}
use Rattle.std.proofs.Math.ListN.{get_or-map}
use Rattle.std.proofs.lemmas.Bool.{cases_eq, eq-eqb, le-ltb, lt-ltb, ne_eqb, and_parts}
use Rattle.std.proofs.lemmas.List.{length-map}
use Rattle.std.proofs.lemmas.List.Sums.{position_or_len_is}
use Rattle.wf_model.proofs.Lemmas.{length_filter, suc_not_zero}
use Rattle.wf_base.specs.Set.Parts.{part_limit, part_values}
use Rattle.wf_base.specs.Set.Sets.{values_in}
use Rattle.wf_base.proofs.OfSet.Lemmas.{length-values_in, part_of, values_of_first}
use Rattle.wf_box.specs.Kept.{is_narrow}

-- ---- a test that each value passes

one_more : (m n : ℕ) → (suc m == suc n) ≡ (m == n)
one_more m n = ⊎_elim (λ (e : m ≡ n). eq-eqb (suc m) (suc n) (ap suc e) ∙ sym (eq-eqb m n e)) (λ (ne : m ≡ n → ⊥). ne_eqb (suc m) (suc n) (λ e. ne (omega (arith, e))) ∙ sym (ne_eqb m n ne)) (cases_eq m n)

counted : (b : Bool) (x : ℕ) (xs ys : List ℕ) → length ys ≤ length xs → (suc (length xs) == length (cond b (x ∷ ys) ys)) ≡ (b && (length xs == length ys))
counted true x xs ys fewer = one_more (length xs) (length ys)
counted false x xs ys fewer = ne_eqb (suc (length xs)) (length ys) (λ e. absurd (omega (arith, e, fewer)))

-- as many values pass as there are where all pass
all_counted : (p : ℕ → Bool) (xs : List ℕ) → (length xs == length (filter p xs)) ≡ list_all p xs
all_counted p [] = refl
all_counted p (x ∷ xs) = counted (p x) x xs (filter p xs) (length_filter p xs) ∙ ap (λ b. p x && b) (all_counted p xs)

all_here : (a b c d : ℕ) → (a + b + c + d == a) ≡ ((b == 0 && c == 0) && d == 0)
all_here a (suc b) c d = ne_eqb (a + suc b + c + d) a (λ e. absurd (omega (arith, e))) ∙ sym (ap (λ t. (t && c == 0) && d == 0) (suc_not_zero b))
all_here a zero (suc c) d = ne_eqb (a + 0 + suc c + d) a (λ e. absurd (omega (arith, e))) ∙ sym (ap (λ t. t && d == 0) (suc_not_zero c))
all_here a zero zero (suc d) = ne_eqb (a + 0 + 0 + suc d) a (λ e. absurd (omega (arith, e))) ∙ sym (suc_not_zero d)
all_here a zero zero zero = eq-eqb (a + 0 + 0 + 0) a (omega arith)

-- all values have their bit in the first word where the others are empty
pub others_empty : (set : List ℕ) → ((length (part_values (part_of set 1)) == 0 && length (part_values (part_of set 2)) == 0) && length (part_values (part_of set 3)) == 0) ≡ is_narrow (values_in set)
others_empty set =
    let low = length (part_values (part_of set 0)) in
    sym (all_here low (length (part_values (part_of set 1))) (length (part_values (part_of set 2))) (length (part_values (part_of set 3))))
    ∙ ap (λ n. n == low) (sym (length-values_in set))
    ∙ ap (λ vs. length (values_in set) == length vs) (values_of_first set)
    ∙ all_counted (λ v. nat_lt v part_limit) (values_in set)

all_stay : (p : ℕ → Bool) (xs : List ℕ) → list_all p xs ≡ true → filter p xs ≡ xs
all_stay p [] h = refl
all_stay p (x ∷ xs) h =
    let each = and_parts (p x) (list_all p xs) h in
    let stays : cond (p x) (x ∷ filter p xs) (filter p xs) ≡ x ∷ filter p xs = ap (λ b. cond b (x ∷ filter p xs) (filter p xs)) each.0 in
    stays ∙ ap (λ ys. x ∷ ys) (all_stay p xs each.1)

pub each_stays : (p : ℕ → Bool) (box : List (List ℕ)) → list_all (list_all p) box ≡ true → map (filter p) box ≡ box
each_stays p [] h = refl
each_stays p (set ∷ box) h =
    let each = and_parts (list_all p set) (list_all (list_all p) box) h in
    ap (λ s. s ∷ map (filter p) box) (all_stay p set each.0) ∙ ap (λ b. set ∷ b) (each_stays p box each.1)

-- ---- the first part that passes

module _ (p : List ℕ → Bool) (parts : List ℕ) where
  tested : (k : ℕ) (b : Bool) → p (part_values (get_or parts k 0)) ≡ b → p (get_or (map part_values parts) k (part_values 0)) ≡ b
  tested k b e = ap p (get_or-map part_values parts k 0) ∙ e

  prefix_is : (i : ℕ) → i ≤ length parts → ((k : ℕ) → k < i → p (part_values (get_or parts k 0)) ≡ false) → (i < length parts → p (part_values (get_or parts i 0)) ≡ true) → position_or_len p (map part_values parts) ≡ i
  prefix_is i within before here =
      position_or_len_is p (map part_values parts) i (part_values 0) (omega (arith, within, length-map parts part_values))
      (λ k lt. tested k false (before k lt)) (λ lt. tested i true (here (omega (arith, lt, length-map parts part_values))))

  found : (n : ℕ) → position_or_len p (map part_values parts) ≡ n → position p (map part_values parts) ≡ cond (nat_lt n (length parts)) (Some n) None
  found n e =
      ap (λ k. cond (nat_lt k (length (map part_values parts))) (Some k) None) e
      ∙ ap (λ k. cond (nat_lt n k) (Some n) None) (length-map parts part_values)

  pub part_here : (i : ℕ) → i < length parts → ((k : ℕ) → k < i → p (part_values (get_or parts k 0)) ≡ false) → p (part_values (get_or parts i 0)) ≡ true → Some i ≡ position p (map part_values parts)
  part_here i lt before here =
      sym (found i (prefix_is i (omega (arith, lt)) before (λ _. here)) ∙ ap (λ b. cond b (Some i) None) (lt-ltb i (length parts) lt))

  pub part_nowhere : ((k : ℕ) → k < length parts → p (part_values (get_or parts k 0)) ≡ false) → None ≡ position p (map part_values parts)
  part_nowhere none_pass =
      let n = length parts in
      sym (found n (prefix_is n (omega arith) none_pass (λ lt. absurd (omega (arith, lt)))) ∙ ap (λ b. cond b (Some n) None) (le-ltb n n (omega arith)))
