use Rattle.std.proofs.Common.{◌≡◌, Bool, drop, map, unwrap_or, vec_items}
use Rattle.std.specs.BTreeMap.{get}
use Rattle.std.specs.Ordering.{nat_cmp}
use Rattle.wf_model.specs.Simplex.{Simplex}
use Rattle.wf_model.specs.Task.{Tuple, inputs}
use Rattle.wf_task.specs.TaskSeen.{rules_seen}
use Rattle.wf_tree_steps.specs.Balance.Judge.{rules_fault}
use Rattle.wf_tree_steps.specs.Balance.Keys.{IsTestAt}
use Rattle.wf_tree_steps.proofs.balance.check.judge_rows.Given as goal

-- the simplices that are left have the fault of all, and the test is still the one by weights
abbrev pub invariant-simplices : goal.invariant-simplices
invariant-simplices l =
    (test : Simplex → Tuple → Bool) → IsTestAt l.task (λ q. unwrap_or (get nat_cmp l.weights q) 0) l.modulus test (rules_seen (inputs l.task) (map vec_items l.rows))
    → (rules_fault test l.number (drop l.number (rules_seen (inputs l.task) (map vec_items l.rows))) ≡ rules_fault test 0 (rules_seen (inputs l.task) (map vec_items l.rows)))
    × IsTestAt l.task (λ q. unwrap_or (get nat_cmp l.weights q) 0) l.modulus test (drop l.number (rules_seen (inputs l.task) (map vec_items l.rows)))
