use Rattle.std.proofs.Common.{◌≡◌, Bool, drop, unwrap_or}
use Rattle.std.specs.BTreeMap.{get}
use Rattle.std.specs.Ordering.{nat_cmp}
use Rattle.wf_model.specs.Task.{Tuple}
use Rattle.wf_tree_steps.specs.Balance.Judge.{tuples_fault}
use Rattle.wf_tree_steps.specs.Balance.Keys.{IsTestOf}
use Rattle.wf_tree_steps.proofs.balance.check.judge_tuples.Given as goal

-- the tuples that are left have the fault of all, and the test is still the one by weights
abbrev pub invariant-tuples : goal.invariant-tuples
invariant-tuples l =
    (test : Tuple → Bool) → IsTestOf (λ q. unwrap_or (get nat_cmp l.weights q) 0) l.modulus l.labels test l.tuples
    → (tuples_fault test l.simplex l.place (drop l.place l.tuples) ≡ tuples_fault test l.simplex 0 l.tuples)
    × IsTestOf (λ q. unwrap_or (get nat_cmp l.weights q) 0) l.modulus l.labels test (drop l.place l.tuples)
