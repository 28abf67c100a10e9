-- What multipliers are in a task at hand depends on the input simplices alone.
use Rattle.std.proofs.Common.{◌≡◌, ℕ, suc, ◌+◌, ◌%◌, ◌==◌, ◌&&◌, ◌<◌, nat_lt, not, cond, List, [], ◌∷◌, length, None, Some, refl, sym, ap, ap₂, ◌∙◌}
use Rattle.std.specs.List.{remove}
use Rattle.std.proofs.lemmas.Bool.{and_from, eq-eqb, lt-ltb, ne_eqb}
use Rattle.std.proofs.lemmas.List.{length-map}
use Rattle.std.proofs.lemmas.List.Sums.{sum_by-cons}
use Rattle.wf_model.specs.Simplex.{Simplex}
use Rattle.wf_model.specs.Task.{Task, Tuple, inputs}
use Rattle.wf_tree_model.specs.Counting.Rules.{same_numbers}
use Rattle.wf_tree_model.specs.Alike.{are_alike}
use Rattle.wf_tree_model.specs.Balance.{Multiplier, counts_nothing, counts_with, counts_without, input_of, weight_of_vertices, weight_with, weight_without}
use Rattle.wf_tree_refine.specs.AtHand.{at_hand}
use Rattle.wf_tree_steps.specs.declared.balance.fault.BalanceFault.{BalanceFault}
use Rattle.wf_tree_steps.specs.declared.balance.fault.BalanceFault.TheVariants.{SumRange, NoSimplex, NoPlace, OthersLength, WeightRange, OtherSum}
use Rattle.wf_tree_steps.specs.Balance.Judge.{balance_fault, multiplier_fault, multipliers_fault, rules_fault, sums_fault, unless_fault}
use Rattle.wf_tree_steps.proofs.OfBalance.Faults.{passed, then_next}
use Rattle.wf_tree_steps.proofs.OfBalance.Inputs.{input_same, seen_long}

module _ (t : Task) (rows : List (List Tuple)) (each : length rows ≡ length (inputs t)) where
  abbrev at : Task
  at = at_hand t rows

  size_same : length at.delta ≡ length t.delta
  size_same = seen_long (inputs t) rows each ∙ length-map t.delta (λ rule. rule.input)

  same_input : (x : Multiplier) → input_of at x ≡ input_of t x
  same_input x = input_same t rows x.simplex each

  multiplier_same : (modulus place : ℕ) (x : Multiplier) → multiplier_fault at modulus place x ≡ multiplier_fault t modulus place x
  multiplier_same modulus place x =
      ap₂ (λ n (s : Simplex).
      cond (not (nat_lt x.simplex n)) (Some (NoSimplex place))
      (cond (not (nat_lt x.place (length s))) (Some (NoPlace place))
      (cond (not (length x.others + 1 == length s)) (Some (OthersLength place))
      (cond (not (nat_lt 0 x.weight && nat_lt x.weight modulus)) (Some (WeightRange place)) None))))
      size_same (same_input x)

  pub multipliers_same : (modulus place : ℕ) (xs : List Multiplier) → multipliers_fault at modulus place xs ≡ multipliers_fault t modulus place xs
  multipliers_same modulus place [] = refl
  multipliers_same modulus place (x ∷ xs) = ap₂ unless_fault (multiplier_same modulus place x) (multipliers_same modulus (suc place) xs)

  vertices_same : (xs : List Multiplier) → weight_of_vertices at xs ≡ weight_of_vertices t xs
  vertices_same [] = refl
  vertices_same (x ∷ xs) =
      sum_by-cons (λ y. cond (length (input_of at y) == 1) y.weight 0) x xs
      ∙ ap₂ (λ (s : Simplex) n. cond (length s == 1) x.weight 0 + n) (same_input x) (vertices_same xs)
      ∙ sym (sum_by-cons (λ y. cond (length (input_of t y) == 1) y.weight 0) x xs)

  with_same : (s : Simplex) (tuple : Tuple) (xs : List Multiplier) → weight_with at xs s tuple ≡ weight_with t xs s tuple
  with_same s tuple [] = refl
  with_same s tuple (x ∷ xs) =
      sum_by-cons (λ y. cond (counts_with at s tuple y) y.weight 0) x xs
      ∙ ap₂ (λ (u : Simplex) n. cond (are_alike t u s && same_numbers x.others (remove tuple x.place)) x.weight 0 + n) (same_input x) (with_same s tuple xs)
      ∙ sym (sum_by-cons (λ y. cond (counts_with t s tuple y) y.weight 0) x xs)

  without_same : (s : Simplex) (tuple : Tuple) (xs : List Multiplier) → weight_without at xs s tuple ≡ weight_without t xs s tuple
  without_same s tuple [] = refl
  without_same s tuple (x ∷ xs) =
      sum_by-cons (λ y. cond (counts_without at s tuple y) y.weight 0) x xs
      ∙ ap₂ (λ (u : Simplex) n. cond (are_alike t (remove u x.place) s && same_numbers x.others tuple) x.weight 0 + n) (same_input x) (without_same s tuple xs)
      ∙ sym (sum_by-cons (λ y. cond (counts_without t s tuple y) y.weight 0) x xs)

  pub counts_same : (modulus : ℕ) (xs : List Multiplier) (s : Simplex) (tuple : Tuple) → counts_nothing at modulus xs s tuple ≡ counts_nothing t modulus xs s tuple
  counts_same modulus xs s tuple = ap₂ (λ a b. a % modulus == b % modulus) (with_same s tuple xs) (without_same s tuple xs)

  -- ---- the first fault

  module _ (modulus sum : ℕ) (xs : List Multiplier) (some : 0 < sum) (reduced : sum < modulus) where
    after_sum : balance_fault at modulus sum xs ≡ unless_fault (multipliers_fault t modulus 0 xs) (sums_fault at modulus sum xs)
    after_sum =
        passed (nat_lt 0 sum && nat_lt sum modulus) SumRange _ (and_from _ _ (lt-ltb 0 sum some) (lt-ltb sum modulus reduced))
        ∙ ap (λ o. unless_fault o (sums_fault at modulus sum xs)) (multipliers_same modulus 0 xs)

    pub of_multiplier : (e : BalanceFault) → multipliers_fault t modulus 0 xs ≡ Some e → balance_fault at modulus sum xs ≡ Some e
    of_multiplier e h = after_sum ∙ ap (λ o. unless_fault o (sums_fault at modulus sum xs)) h

    after_multipliers : multipliers_fault t modulus 0 xs ≡ None →
        balance_fault at modulus sum xs ≡ cond (not (weight_of_vertices t xs % modulus == sum)) (Some OtherSum) (rules_fault (counts_nothing at modulus xs) 0 at.delta)
    after_multipliers h =
        after_sum
        ∙ then_next (multipliers_fault t modulus 0 xs) (sums_fault at modulus sum xs) h
        ∙ ap (λ n. cond (not (n % modulus == sum)) (Some OtherSum) (rules_fault (counts_nothing at modulus xs) 0 at.delta)) (vertices_same xs)

    pub of_sum : multipliers_fault t modulus 0 xs ≡ None → (weight_of_vertices t xs % modulus ≡ sum → ⊥) → balance_fault at modulus sum xs ≡ Some OtherSum
    of_sum h other = after_multipliers h ∙ ap (λ b. cond (not b) (Some OtherSum) (rules_fault (counts_nothing at modulus xs) 0 at.delta)) (ne_eqb _ _ other)

    pub of_tuples : multipliers_fault t modulus 0 xs ≡ None → weight_of_vertices t xs % modulus ≡ sum → balance_fault at modulus sum xs ≡ rules_fault (counts_nothing at modulus xs) 0 at.delta
    of_tuples h whole = after_multipliers h ∙ passed (weight_of_vertices t xs % modulus == sum) OtherSum _ (eq-eqb _ _ whole)
