-- What the checker answers: the first reason why multipliers are no balance.
use Rattle.std.specs.Prelude.{◌≡◌, ◌+◌, ◌%◌, ◌==◌, ◌&&◌, ◌↔◌, nat_lt, not, ℕ, suc, Bool, List, [], ◌∷◌, length, Option, None, Some, Result, Ok, Err, if◌then◌else◌}
use Rattle.wf_model.specs.Simplex.{Simplex}
use Rattle.wf_model.specs.Task.{Rule, Task, Tuple}
use Rattle.wf_tree_model.specs.Balance.{IsBalance, Multiplier, counts_nothing, input_of, weight_of_vertices}
use Rattle.wf_tree_steps.specs.declared.balance.fault.BalanceFault.{BalanceFault}
use Rattle.wf_tree_steps.specs.declared.balance.fault.BalanceFault.TheVariants.{SumRange, NoSimplex, NoPlace, OthersLength, WeightRange, OtherSum, NotBalanced, OutOfMemory}

-- the fault that is looked for next, if there is none yet
abbrev pub unless_fault : Option BalanceFault → Option BalanceFault → Option BalanceFault
unless_fault None next = next
unless_fault (Some fault) next = Some fault

-- the first reason why the multiplier of this place is none
abbrev pub multiplier_fault : Task → ℕ → ℕ → Multiplier → Option BalanceFault
multiplier_fault t modulus place x =
    if not (nat_lt x.simplex (length t.delta)) then Some (NoSimplex place)
    else if not (nat_lt x.place (length (input_of t x))) then Some (NoPlace place)
    else if not (length x.others + 1 == length (input_of t x)) then Some (OthersLength place)
    else if not (nat_lt 0 x.weight && nat_lt x.weight modulus) then Some (WeightRange place)
    else None

-- the first fault of the multipliers from this place on
abbrev pub multipliers_fault : Task → ℕ → ℕ → List Multiplier → Option BalanceFault
multipliers_fault t modulus place [] = None
multipliers_fault t modulus place (x ∷ xs) = unless_fault (multiplier_fault t modulus place x) (multipliers_fault t modulus (suc place) xs)

-- the first tuple, from this place on, for which the test does not hold
abbrev pub tuples_fault : (Tuple → Bool) → ℕ → ℕ → List Tuple → Option BalanceFault
tuples_fault test simplex place [] = None
tuples_fault test simplex place (y ∷ ys) = if test y then tuples_fault test simplex (suc place) ys else Some (NotBalanced simplex place)

-- the same for each simplex, from this number on
abbrev pub rules_fault : (Simplex → Tuple → Bool) → ℕ → List Rule → Option BalanceFault
rules_fault test simplex [] = None
rules_fault test simplex (rule ∷ rules) =
    unless_fault (tuples_fault (test rule.input) simplex 0 rule.tuples) (rules_fault test (suc simplex) rules)

-- the sum of the vertices, then each tuple
abbrev pub sums_fault : Task → ℕ → ℕ → List Multiplier → Option BalanceFault
sums_fault t modulus sum xs =
    if not (weight_of_vertices t xs % modulus == sum) then Some OtherSum else rules_fault (counts_nothing t modulus xs) 0 t.delta

-- the first reason why the multipliers are no balance: the sum, the multipliers in order, then what
-- they add up to
abbrev pub balance_fault : Task → ℕ → ℕ → List Multiplier → Option BalanceFault
balance_fault t modulus sum xs =
    if not (nat_lt 0 sum && nat_lt sum modulus) then Some SumRange
    else unless_fault (multipliers_fault t modulus 0 xs) (sums_fault t modulus sum xs)

-- the checker answers the first fault; if memory ran out, it says nothing of the multipliers
abbrev pub Judges : Result (Unit {0}) BalanceFault → Option BalanceFault → Type 0
Judges (Ok u) fault = fault ≡ None
Judges (Err OutOfMemory) fault = Unit {0}
Judges (Err e) fault = fault ≡ Some e

-- ---- a law

-- multipliers have no fault exactly if they are a balance
abbrev pub NoFaultExactlyIfBalance : Type 0
NoFaultExactlyIfBalance = (t : Task) (modulus sum : ℕ) (xs : List Multiplier)
    → (balance_fault t modulus sum xs ≡ None) ↔ IsBalance t modulus sum xs
