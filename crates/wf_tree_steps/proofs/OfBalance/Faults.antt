-- Multipliers without a fault are a balance, and the other way round.
use Rattle.std.proofs.Common.{◌≡◌, ℕ, zero, suc, ◌+◌, ◌%◌, ◌==◌, ◌&&◌, ◌<◌, nat_lt, not, All, Bool, true, false, cond, List, [], ◌∷◌, length, Option, None, Some, refl, ◌∙◌, arith}
use Rattle.std.specs.List.{AllByRecursion}
use Rattle.std.proofs.Math.Nat.{mod-lt, zero-mod}
use Rattle.std.proofs.lemmas.Bool.{and_from, and_parts, eqb-true, eq-eqb, false≢true, ltb-true, lt-ltb}
use Rattle.std.proofs.lemmas.List.Elements.{All-from_recursion, recursion_from_All}
use Rattle.wf_model.specs.Simplex.{Simplex}
use Rattle.wf_model.specs.Task.{Rule, Task, Tuple}
use Rattle.wf_tree_model.specs.Balance.{IsBalance, IsMultiplier, Multiplier, counts_nothing, input_of, weight_of_vertices}
use Rattle.wf_tree_steps.specs.declared.balance.fault.BalanceFault.{BalanceFault}
use Rattle.wf_tree_steps.specs.declared.balance.fault.BalanceFault.TheVariants.{SumRange, NoSimplex, NoPlace, OthersLength, WeightRange, OtherSum, NotBalanced}
use Rattle.wf_tree_steps.specs.Balance.Judge.{NoFaultExactlyIfBalance, balance_fault, multiplier_fault, multipliers_fault, rules_fault, sums_fault, tuples_fault, unless_fault}

-- ---- tests in turn

no_fault : {X : Type 0} (x : X) → Some x ≡ None → ⊥
no_fault x h = cc

pass : (b : Bool) (e : BalanceFault) (o : Option BalanceFault) → cond (not b) (Some e) o ≡ None → (b ≡ true) × (o ≡ None)
pass true e o h = (refl, h)
pass false e o h = absurd (no_fault e h)

pub passed : (b : Bool) (e : BalanceFault) (o : Option BalanceFault) → b ≡ true → cond (not b) (Some e) o ≡ o
passed true e o h = refl
passed false e o h = absurd (false≢true h)

both_none : (o p : Option BalanceFault) → unless_fault o p ≡ None → (o ≡ None) × (p ≡ None)
both_none None p h = (refl, h)
both_none (Some e) p h = absurd (no_fault e h)

pub then_next : (o p : Option BalanceFault) → o ≡ None → unless_fault o p ≡ p
then_next None p h = refl
then_next (Some e) p h = absurd (no_fault e h)

-- ---- multipliers

multiplier_if : (t : Task) (modulus place : ℕ) (x : Multiplier) → multiplier_fault t modulus place x ≡ None → IsMultiplier t modulus x
multiplier_if t modulus place x h =
    let size = length (input_of t x) in
    let a = pass (nat_lt x.simplex (length t.delta)) (NoSimplex place) _ h in
    let b = pass (nat_lt x.place size) (NoPlace place) _ a.1 in
    let c = pass (length x.others + 1 == size) (OthersLength place) _ b.1 in
    let d = pass (nat_lt 0 x.weight && nat_lt x.weight modulus) (WeightRange place) None c.1 in
    let range = and_parts (nat_lt 0 x.weight) (nat_lt x.weight modulus) d.0 in
    record {
      listed = ltb-true x.simplex (length t.delta) a.0;
      inside = ltb-true x.place size b.0;
      long = eqb-true _ _ c.0;
      positive = ltb-true 0 x.weight range.0;
      reduced = ltb-true x.weight modulus range.1;
    }

faultless_if : (t : Task) (modulus place : ℕ) (x : Multiplier) → IsMultiplier t modulus x → multiplier_fault t modulus place x ≡ None
faultless_if t modulus place x h =
    let size = length (input_of t x) in
    passed (nat_lt x.simplex (length t.delta)) (NoSimplex place) _ (lt-ltb x.simplex (length t.delta) h.listed)
    ∙ passed (nat_lt x.place size) (NoPlace place) _ (lt-ltb x.place size h.inside)
    ∙ passed (length x.others + 1 == size) (OthersLength place) _ (eq-eqb _ _ h.long)
    ∙ passed (nat_lt 0 x.weight && nat_lt x.weight modulus) (WeightRange place) None (and_from _ _ (lt-ltb 0 x.weight h.positive) (lt-ltb x.weight modulus h.reduced))

pub multipliers_if : (t : Task) (modulus place : ℕ) (xs : List Multiplier) → multipliers_fault t modulus place xs ≡ None → AllByRecursion (IsMultiplier t modulus) xs
multipliers_if t modulus place [] h = tt
multipliers_if t modulus place (x ∷ xs) h =
    let parts = both_none (multiplier_fault t modulus place x) (multipliers_fault t modulus (suc place) xs) h in
    (multiplier_if t modulus place x parts.0, multipliers_if t modulus (suc place) xs parts.1)

none_faulty : (t : Task) (modulus place : ℕ) (xs : List Multiplier) → AllByRecursion (IsMultiplier t modulus) xs → multipliers_fault t modulus place xs ≡ None
none_faulty t modulus place [] h = refl
none_faulty t modulus place (x ∷ xs) h =
    then_next (multiplier_fault t modulus place x) (multipliers_fault t modulus (suc place) xs) (faultless_if t modulus place x h.0) ∙ none_faulty t modulus (suc place) xs h.1

-- ---- tuples

tuples_if : (test : Tuple → Bool) (s place : ℕ) (ys : List Tuple) → tuples_fault test s place ys ≡ None → AllByRecursion (λ y. test y ≡ true) ys
tuples_if test s place [] h = tt
tuples_if test s place (y ∷ ys) h = let parts = by (test y) (tuples_fault test s (suc place) ys) h in (parts.0, tuples_if test s (suc place) ys parts.1)
  where
    by : (b : Bool) (o : Option BalanceFault) → cond b o (Some (NotBalanced s place)) ≡ None → (b ≡ true) × (o ≡ None)
    by true o h = (refl, h)
    by false o h = absurd (no_fault (NotBalanced s place) h)

none_left : (test : Tuple → Bool) (s place : ℕ) (ys : List Tuple) → AllByRecursion (λ y. test y ≡ true) ys → tuples_fault test s place ys ≡ None
none_left test s place [] h = refl
none_left test s place (y ∷ ys) h = rw h.0 (none_left test s (suc place) ys h.1)

abbrev Passes : (Simplex → Tuple → Bool) → Rule → Type 0
Passes test rule = All (λ y. test rule.input y ≡ true) rule.tuples

rules_if : (test : Simplex → Tuple → Bool) (n : ℕ) (rules : List Rule) → rules_fault test n rules ≡ None → AllByRecursion (Passes test) rules
rules_if test n [] h = tt
rules_if test n (rule ∷ rules) h =
    let parts = both_none (tuples_fault (test rule.input) n 0 rule.tuples) (rules_fault test (suc n) rules) h in
    (All-from_recursion (λ y. test rule.input y ≡ true) rule.tuples (tuples_if (test rule.input) n 0 rule.tuples parts.0), rules_if test (suc n) rules parts.1)

none_failing : (test : Simplex → Tuple → Bool) (n : ℕ) (rules : List Rule) → AllByRecursion (Passes test) rules → rules_fault test n rules ≡ None
none_failing test n [] h = refl
none_failing test n (rule ∷ rules) h =
    then_next (tuples_fault (test rule.input) n 0 rule.tuples) (rules_fault test (suc n) rules)
    (none_left (test rule.input) n 0 rule.tuples (recursion_from_All (λ y. test rule.input y ≡ true) rule.tuples h.0))
    ∙ none_failing test (suc n) rules h.1

-- ---- all together

sum_small : (t : Task) (modulus sum : ℕ) (xs : List Multiplier) → IsBalance t modulus sum xs → sum < modulus
sum_small t modulus sum xs is = by modulus xs (recursion_from_All (IsMultiplier t modulus) xs is.multipliers) is.whole
  where
    by : (k : ℕ) (ys : List Multiplier) → AllByRecursion (IsMultiplier t k) ys → weight_of_vertices t ys % k ≡ sum → sum < k
    by zero [] h whole = absurd (let z = zero-mod zero in let some = is.some in let bad : ⊥ = omega (arith, z, some, whole) in bad)
    by zero (y ∷ ys) h whole = absurd (let low = h.0.reduced in let bad : ⊥ = omega (arith, low) in bad)
    by (suc k) ys h whole = let low = mod-lt (weight_of_vertices t ys) (let some : 0 < suc k = omega arith in some) in omega (arith, low, whole)

balance_if : (t : Task) (modulus sum : ℕ) (xs : List Multiplier) → balance_fault t modulus sum xs ≡ None → IsBalance t modulus sum xs
balance_if t modulus sum xs h =
    let test = counts_nothing t modulus xs in
    let a = pass (nat_lt 0 sum && nat_lt sum modulus) SumRange _ h in
    let b = both_none (multipliers_fault t modulus 0 xs) (sums_fault t modulus sum xs) a.1 in
    let c = pass (weight_of_vertices t xs % modulus == sum) OtherSum (rules_fault test 0 t.delta) b.1 in
    record {
      some = ltb-true 0 sum (and_parts (nat_lt 0 sum) (nat_lt sum modulus) a.0).0;
      multipliers = All-from_recursion (IsMultiplier t modulus) xs (multipliers_if t modulus 0 xs b.0);
      whole = eqb-true _ _ c.0;
      balanced = All-from_recursion (Passes test) t.delta (rules_if test 0 t.delta c.1);
    }

no_fault_if : (t : Task) (modulus sum : ℕ) (xs : List Multiplier) → IsBalance t modulus sum xs → balance_fault t modulus sum xs ≡ None
no_fault_if t modulus sum xs h =
    let test = counts_nothing t modulus xs in
    passed (nat_lt 0 sum && nat_lt sum modulus) SumRange _ (and_from _ _ (lt-ltb 0 sum h.some) (lt-ltb sum modulus (sum_small t modulus sum xs h)))
    ∙ then_next (multipliers_fault t modulus 0 xs) (sums_fault t modulus sum xs) (none_faulty t modulus 0 xs (recursion_from_All (IsMultiplier t modulus) xs h.multipliers))
    ∙ passed (weight_of_vertices t xs % modulus == sum) OtherSum (rules_fault test 0 t.delta) (eq-eqb _ _ h.whole)
    ∙ none_failing test 0 t.delta (recursion_from_All (Passes test) t.delta h.balanced)

pub exact : NoFaultExactlyIfBalance
exact t modulus sum xs = (balance_if t modulus sum xs, no_fault_if t modulus sum xs)
