use Rattle.std.proofs.Common.{◌≡◌, ◌+◌, ◌*◌, drop, map, vec_items}
use Rattle.wf_tree_model.specs.Counting.Rules.{rule_at}
use Rattle.wf_tree_model.specs.Cases.{components}
use Rattle.wf_tree_refine.specs.AtHand.{at_hand}
use Rattle.wf_tree_text.specs.Seen.{nodes_seen}
use Rattle.wf_tree_check.specs.Walk.{cases_judged}
use Rattle.wf_tree_check.proofs.judge.+judging.Given as goal

abbrev pub decreases-judge : goal.decreases-judge
decreases-judge l = 2 * l.levels

abbrev pub decreases-check_cases : goal.decreases-check_cases
decreases-check_cases l = 2 * l.levels + 1

-- the cases from this number on come to what all of them come to
abbrev pub invariant-check_cases-parts : goal.invariant-check_cases-parts
invariant-check_cases-parts l =
    let t = at_hand l.walk.task.now (map vec_items l.rows) in
    let nodes = nodes_seen l.walk.nodes.now in
    let parts = components (rule_at t l.cases.simplex) in
    cases_judged l.levels t l.cases.simplex parts l.place (drop l.place nodes) ≡ cases_judged l.levels t l.cases.simplex (drop l.number parts) l.next (drop l.next nodes)
