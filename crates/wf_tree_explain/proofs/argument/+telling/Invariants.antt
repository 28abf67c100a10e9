use Rattle.std.proofs.Common.{◌+◌, ◌*◌, drop, map, string_bytes, vec_items}
use Rattle.wf_tree_model.specs.Counting.Rules.{rule_at}
use Rattle.wf_tree_model.specs.Cases.{components}
use Rattle.wf_tree_refine.specs.AtHand.{at_hand}
use Rattle.wf_tree_text.specs.Seen.{nodes_seen}
use Rattle.wf_tree_explain.specs.Walk.{Tells, parts_told}
use Rattle.wf_tree_explain.proofs.argument.+telling.Given as goal

abbrev pub decreases-put_cases : goal.decreases-put_cases
decreases-put_cases l = 2 * l.at.levels + 1

abbrev pub decreases-put_tree : goal.decreases-put_tree
decreases-put_tree l = 2 * l.at.levels

-- the parts before this number were told
abbrev pub invariant-put_cases-parts : goal.invariant-put_cases-parts
invariant-put_cases-parts l =
    let t = at_hand l.walk.task.now (map vec_items l.rows) in
    let nodes = nodes_seen l.walk.nodes.now in
    let parts = components (rule_at t l.cases.simplex) in
    Tells (string_bytes l.initial.text) (string_bytes l.text) (parts_told l.at.levels t l.at.depth l.cases.simplex 0 parts (drop l.at.place nodes))
    (parts_told l.at.levels t l.at.depth l.cases.simplex l.number (drop l.number parts) (drop l.next nodes))
