-- A balance leaves no decision map.
use Rattle.std.proofs.Common.{◌≡◌, ℕ, zero, suc, ◌+◌, ◌%◌, ◌==◌, ◌&&◌, ◌<◌, ◌≤◌, All, Bool, true, false, cond, List, [], ◌∷◌, flat_map, length, refl, sym, ap, ◌∙◌, subst, arith}
use Rattle.std.specs.List.{AllByRecursion, list_any, remove, sum_by}
use Rattle.std.proofs.Math.Nat.{mod-zero, zero-mod}
use Rattle.std.proofs.lemmas.Bool.{and_parts, eqb-true, false≢true}
use Rattle.std.proofs.lemmas.List.{length-map}
use Rattle.std.proofs.lemmas.List.Elements.{recursion_from_All}
use Rattle.std.proofs.lemmas.List.Sums.{sum_by-cons}
use Rattle.wf_model.specs.Simplex.{Simplex, is_ascending, is_nonempty, processes_of}
use Rattle.wf_model.specs.View.{View}
use Rattle.wf_model.specs.Task.{Rule, Task, Tuple, first_block, inputs}
use Rattle.wf_model.specs.DecisionMap.{HasNoDecisionMap}
use Rattle.wf_model.proofs.Lemmas.{each_append, each_map}
use Rattle.wf_tree_model.specs.Counting.Rules.{rule_at, same_numbers}
use Rattle.wf_tree_model.specs.Counting.Signs.{same_sign, total}
use Rattle.wf_tree_model.proofs.OfCounting.Lemmas.{listed_rule, long_between, on_each_face, taken_away, Between, contained, each, total_append}
use Rattle.wf_tree_model.proofs.Members.{Has, any_has, contained_has, contains, from_each, map_has, of_has}
use Rattle.wf_tree_model.specs.Alike.{are_alike}
use Rattle.wf_tree_model.specs.Balance.{IsBalance, IsMultiplier, Multiplier, counts_nothing, counts_with, counts_without, input_of, weight_with, weight_without}
use Rattle.wf_tree_model.proofs.Inputs.{HasInputComplex, input_ascends}
use Rattle.wf_tree_model.proofs.Alike.{alike_itself}
use Rattle.wf_tree_model.proofs.Equations.{equation, keep_others, others, others_long, vertex_equation, with_it, without_it}
use Rattle.wf_tree_model.proofs.Sides.{IsCovered, IsEven, Part, count_at, part_count, parts_even}

sum_total : {X : Type 0} (f : X → ℕ) (xs : List X) → sum_by f xs ≡ total f xs
sum_total f [] = refl
sum_total f (x ∷ xs) = sum_by-cons f x xs ∙ ap (λ n. f x + n) (sum_total f xs)

-- the sides of the equation, without one that is 1
abbrev parts_of_one : Task → Multiplier → List Part
parts_of_one t x = with_it (input_of t x) x ∷ cond (length (input_of t x) == 1) [] (without_it (input_of t x) x ∷ [])

abbrev parts : Task → List Multiplier → List Part
parts t xs = flat_map (parts_of_one t) xs

-- ---- the simplices of I

-- what each input has, and so each face of one
abbrev IsInput : Task → Simplex → Type 0
IsInput t s = Between 0 (processes_of s) t.processes × (list_any (λ rule. are_alike t s rule.input) t.delta ≡ true) × (is_nonempty s ≡ true)

module _ (t : Task) (fit : HasInputComplex t) where
  each_input : AllByRecursion (IsInput t) (inputs t)
  each_input =
      each_map (IsInput t) (λ rule. rule.input) t.delta
      (from_each (λ rule. IsInput t rule.input) t.delta
      (λ rule there.
      let is = input_ascends t fit rule (contains rule t.delta there) in
      (is.1, any_has (λ q. are_alike t rule.input q.input) rule t.delta there (alike_itself t rule.input), (and_parts (is_nonempty rule.input) (is_ascending (processes_of rule.input)) is.0).0)))

  rule_input : (rule : Rule) → Has rule t.delta → IsInput t rule.input
  rule_input rule there = of_has (IsInput t) (inputs t) rule.input each_input (map_has (λ q. q.input) rule t.delta there)

  face_input : (rule : Rule) → Has rule t.delta → (i : ℕ) → i < length rule.input → (length rule.input == 1) ≡ false → IsInput t (remove rule.input i)
  face_input rule there i inside more =
      let s = rule.input in
      let mask = others (length s) i in
      let kept = keep_others (length s) i s inside in
      subst (IsInput t) kept
      (on_each_face (IsInput t) (inputs t) fit.complex.is_complex each_input s (contains s (inputs t) (map_has (λ q. q.input) rule t.delta there)) mask (others_long (length s) i)
      (subst (λ u. is_nonempty u ≡ true) (sym kept) (some s i inside more)))
    where
      some : (u : Simplex) (i : ℕ) → i < length u → (length u == 1) ≡ false → is_nonempty (remove u i) ≡ true
      some [] i low more = absurd (let none : ⊥ = omega (arith, low) in none)
      some (v ∷ []) i low more = absurd (false≢true (sym more))
      some (v ∷ w ∷ u) zero low more = refl
      some (v ∷ w ∷ u) (suc i) low more = refl

  small_input : (s : Simplex) → IsInput t s → length s ≤ 4
  small_input s is =
      let few = fit.few in
      let l = long_between 0 (processes_of s) t.processes is.0 in
      let e : length (processes_of s) ≡ length s = length-map s (λ v. v.0) in
      omega (arith, few, l, e)

  -- ---- the sum of the equations

  module _ (modulus r : ℕ) (m : View → ℕ) where
    abbrev side : Bool → List Part → ℕ
    side b ps = total (part_count t r m b) ps

    abbrev owed : Multiplier → ℕ
    owed x = cond (length (input_of t x) == 1) x.weight 0

    -- one equation
    one_sum : (x : Multiplier) → IsMultiplier t modulus x → side true (parts_of_one t x) ≡ side false (parts_of_one t x) + owed x
    one_sum x is =
        let s = input_of t x in
        let there = contained_has (rule_at t x.simplex) t.delta (listed_rule t x.simplex is.listed) in
        let small = small_input s (rule_input (rule_at t x.simplex) there) in
        by small (length s == 1) refl
      where
        by : length (input_of t x) ≤ 4 → (b : Bool) → (length (input_of t x) == 1) ≡ b →
            side true (with_it (input_of t x) x ∷ cond b [] (without_it (input_of t x) x ∷ [])) ≡ side false (with_it (input_of t x) x ∷ cond b [] (without_it (input_of t x) x ∷ [])) + cond b x.weight 0
        by small true one = let e = vertex_equation t r m (input_of t x) x small is.inside (eqb-true (length (input_of t x)) 1 one) is.long in omega (arith, e)
        by small false more = let e = equation t r m (input_of t x) x small is.inside in omega (arith, e)

    sums : (xs : List Multiplier) → AllByRecursion (IsMultiplier t modulus) xs → side true (parts t xs) ≡ side false (parts t xs) + total owed xs
    sums [] h = refl
    sums (x ∷ xs) h =
        let one = one_sum x h.0 in
        let rest = sums xs h.1 in
        let a = total_append (part_count t r m true) (parts_of_one t x) (parts t xs) in
        let b = total_append (part_count t r m false) (parts_of_one t x) (parts t xs) in
        omega (arith, one, rest, a, b)

    covered_one : (x : Multiplier) → IsMultiplier t modulus x → AllByRecursion (IsCovered t t.delta) (parts_of_one t x)
    covered_one x is =
        let rule = rule_at t x.simplex in
        let there = contained_has rule t.delta (listed_rule t x.simplex is.listed) in
        let of = rule_input rule there in
        (record { ascending = of.0; listed = of.1 }, by rule there is.inside (length rule.input == 1) refl)
      where
        by : (rule : Rule) → Has rule t.delta → x.place < length rule.input → (b : Bool) → (length rule.input == 1) ≡ b → AllByRecursion (IsCovered t t.delta) (cond b [] (without_it rule.input x ∷ []))
        by rule there inside true one = tt
        by rule there inside false more = let of = face_input rule there x.place inside more in (record { ascending = of.0; listed = of.1 }, tt)

    covered : (xs : List Multiplier) → AllByRecursion (IsMultiplier t modulus) xs → AllByRecursion (IsCovered t t.delta) (parts t xs)
    covered [] h = tt
    covered (x ∷ xs) h = each_append (IsCovered t t.delta) (parts_of_one t x) (parts t xs) (covered_one x h.0) (covered xs h.1)

  -- ---- what a tuple counts

  on_its_side : (a b : Bool) (w : ℕ) → cond (a && true) (cond b w 0) 0 ≡ cond (a && b) w 0
  on_its_side true b w = refl
  on_its_side false b w = refl

  on_no_side : (a : Bool) (n : ℕ) → cond (a && false) n 0 ≡ 0
  on_no_side true n = refl
  on_no_side false n = refl

  one_with : (s : Simplex) (tuple : Tuple) (x : Multiplier) → count_at t true (parts_of_one t x) s tuple ≡ cond (counts_with t s tuple x) x.weight 0
  one_with s tuple x = by (length (input_of t x) == 1)
    where
      by : (b : Bool) → count_at t true (with_it (input_of t x) x ∷ cond b [] (without_it (input_of t x) x ∷ [])) s tuple ≡ cond (counts_with t s tuple x) x.weight 0
      by true =
          let e = on_its_side (are_alike t (input_of t x) s) (same_numbers x.others (remove tuple x.place)) x.weight in
          omega (arith, e)
      by false =
          let e = on_its_side (are_alike t (input_of t x) s) (same_numbers x.others (remove tuple x.place)) x.weight in
          let d = on_no_side (are_alike t (remove (input_of t x) x.place) s) (cond (same_numbers x.others tuple) x.weight 0) in
          omega (arith, e, d)

  one_without : (s : Simplex) (tuple : Tuple) (x : Multiplier) → is_nonempty s ≡ true → x.place < length (input_of t x) → count_at t false (parts_of_one t x) s tuple ≡ cond (counts_without t s tuple x) x.weight 0
  one_without s tuple x some inside = by (length (input_of t x) == 1) refl
    where
      unlike : (u : Simplex) (i : ℕ) → i < length u → (length u == 1) ≡ true → are_alike t (remove u i) s ≡ false
      unlike [] i low one = absurd (let none : ⊥ = omega (arith, low) in none)
      unlike (v ∷ []) zero low one = empty s some
        where
          empty : (s : Simplex) → is_nonempty s ≡ true → are_alike t [] s ≡ false
          empty [] some = absurd (false≢true some)
          empty (w ∷ s) some = refl
      unlike (v ∷ []) (suc i) low one = absurd (let none : ⊥ = omega (arith, low) in none)
      unlike (v ∷ w ∷ u) i low one = absurd (let e = eqb-true (length (v ∷ w ∷ u)) 1 one in let none : ⊥ = omega (arith, e) in none)

      by : (b : Bool) → (length (input_of t x) == 1) ≡ b → count_at t false (with_it (input_of t x) x ∷ cond b [] (without_it (input_of t x) x ∷ [])) s tuple ≡ cond (counts_without t s tuple x) x.weight 0
      by true one =
          let d = on_no_side (are_alike t (input_of t x) s) (cond (same_numbers x.others (remove tuple x.place)) x.weight 0) in
          let e = ap (λ b. cond (b && same_numbers x.others tuple) x.weight 0) (unlike (input_of t x) x.place inside one) in
          omega (arith, d, e)
      by false more =
          let d = on_no_side (are_alike t (input_of t x) s) (cond (same_numbers x.others (remove tuple x.place)) x.weight 0) in
          let e = on_its_side (are_alike t (remove (input_of t x) x.place) s) (same_numbers x.others tuple) x.weight in
          omega (arith, e, d)

  all_with : (s : Simplex) (tuple : Tuple) (xs : List Multiplier) → count_at t true (parts t xs) s tuple ≡ weight_with t xs s tuple
  all_with s tuple xs = by xs ∙ sym (sum_total (λ x. cond (counts_with t s tuple x) x.weight 0) xs)
    where
      by : (xs : List Multiplier) → count_at t true (parts t xs) s tuple ≡ total (λ x. cond (counts_with t s tuple x) x.weight 0) xs
      by [] = refl
      by (x ∷ xs) =
          let a = total_append (λ p. cond (are_alike t p.simplex s && same_sign true p.positive) (p.counts tuple) 0) (parts_of_one t x) (parts t xs) in
          let one = one_with s tuple x in
          let rest = by xs in
          omega (arith, a, one, rest)

  all_without : (s : Simplex) (tuple : Tuple) (xs : List Multiplier) → is_nonempty s ≡ true → AllByRecursion (λ x. x.place < length (input_of t x)) xs → count_at t false (parts t xs) s tuple ≡ weight_without t xs s tuple
  all_without s tuple xs some inside = by xs inside ∙ sym (sum_total (λ x. cond (counts_without t s tuple x) x.weight 0) xs)
    where
      by : (xs : List Multiplier) → AllByRecursion (λ x. x.place < length (input_of t x)) xs → count_at t false (parts t xs) s tuple ≡ total (λ x. cond (counts_without t s tuple x) x.weight 0) xs
      by [] inside = refl
      by (x ∷ xs) inside =
          let a = total_append (λ p. cond (are_alike t p.simplex s && same_sign false p.positive) (p.counts tuple) 0) (parts_of_one t x) (parts t xs) in
          let one = one_without s tuple x some inside.0 in
          let rest = by xs inside.1 in
          omega (arith, a, one, rest)

pub balance_leaves_no_map : (t : Task) (modulus sum : ℕ) (xs : List Multiplier) → HasInputComplex t → first_block t ≡ 1 → IsBalance t modulus sum xs → (r : ℕ) → HasNoDecisionMap t r
balance_leaves_no_map t modulus sum xs fit words is r m decides =
    let multipliers = recursion_from_All (IsMultiplier t modulus) xs is.multipliers in
    let even : (rule : Rule) → Has rule t.delta → IsEven t modulus (parts t xs) rule = λ rule there tuple allowed.
    let s = rule.input in
    let some = (rule_input t fit rule there).2 in
    let inside = each (IsMultiplier t modulus) (λ x. x.place < length (input_of t x)) (λ x h. h.inside) xs multipliers in
    let here = contained (λ y. counts_nothing t modulus xs s y ≡ true) rule.tuples tuple
    (recursion_from_All (λ y. counts_nothing t modulus xs s y ≡ true) rule.tuples (of_has (λ q. All (λ y. counts_nothing t modulus xs q.input y ≡ true) q.tuples) t.delta rule (recursion_from_All (λ q. All (λ y. counts_nothing t modulus xs q.input y ≡ true) q.tuples) t.delta is.balanced) there))
    (contains tuple rule.tuples allowed) in
    ap (λ n. n % modulus) (all_with t fit s tuple xs)
    ∙ eqb-true (weight_with t xs s tuple % modulus) (weight_without t xs s tuple % modulus) here
    ∙ ap (λ n. n % modulus) (sym (all_without t fit s tuple xs some inside)) in
    let of = from_each (λ rule. Has rule t.delta × Between 0 (processes_of rule.input) t.processes) t.delta (λ rule there. (there, (rule_input t fit rule there).0)) in
    let same = parts_even t words modulus r m decides t.delta (parts t xs) of even (covered t fit modulus r m xs multipliers) in
    let exact = sums t fit modulus r m xs multipliers in
    let none = side t fit modulus r m false (parts t xs) in
    let all = total (owed t fit modulus r m) xs in
    let turned : none + all ≡ all + none = omega arith in
    let zero : none ≡ 0 + none = omega arith in
    let some = is.some in
    let whole = is.whole in
    let same_whole = ap (λ n. n % modulus) (sum_total (owed t fit modulus r m) xs) in
    by modulus all none sum (sym same_whole ∙ whole) some (ap (λ n. n % modulus) (sym (exact ∙ turned)) ∙ same ∙ ap (λ n. n % modulus) zero)
  where
    by : (k all none sum : ℕ) → all % k ≡ sum → 0 < sum → (all + none) % k ≡ (0 + none) % k → ⊥
    by zero all none sum whole some h =
        let a = mod-zero (all + none) in
        let b = mod-zero (0 + none) in
        let c = mod-zero all in
        let bad : ⊥ = omega (arith, h, a, b, c, whole, some) in bad
    by (suc k) all none sum whole some h =
        let z = zero-mod (suc k) in
        let e = taken_away (suc k) all 0 none (omega arith) h in
        let bad : ⊥ = omega (arith, e, z, whole, some) in bad
