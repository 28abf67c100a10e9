use Rattle.std.proofs.Common.{map, ap, arith, vec_items}
use Rattle.std.proofs.lemmas.Result.{err_from_is_err_and}
use Rattle.wf_tree_model.specs.Counting.Rules.{rule_at}
use Rattle.wf_tree_model.specs.Cases.{components}
use Rattle.wf_tree_refine.specs.AtHand.{at_hand}
use Rattle.wf_tree_text.specs.Seen.{nodes_seen}
use Rattle.wf_tree_check.proofs.Walking.{case_judged, case_refused}
use Rattle.wf_tree_check.proofs.judge.+judging.Goals as goal

pub check_cases-returns-in_err-next : goal.check_cases-returns-in_err-next
check_cases-returns-in_err-next m c =
    let t = at_hand c.args.walk.now.task.now (map vec_items c.args.rows.now) in
    let nodes = nodes_seen c.args.walk.now.nodes.now in
    let rule = rule_at t c.args.cases.simplex in
    let p = err_from_is_err_and c.from_residual-in_err-next.result c.from_residual-in_err-next.ensures.1 in
    let low = c.parts-test.true in
    let count = c.requires.count in
    let part = ap (λ rows. at_hand c.args.walk.now.task.now (map vec_items rows)) c.deref.ensures.value in
    rw (p.1, p.2)
    (case_refused nodes c.args.levels c.args.cases.simplex t (at_hand c.args.walk.now.task.now (map vec_items c.deref.result.now)) (at_hand c.args.walk.now.task.now (map vec_items c.in_ok-part.part.items)) (components rule) c.parts.number c.args.place c.parts.next (omega (arith, low, count)) part c.in_ok-part.ensures.case c.parts.invariant
    c.in_err-next.field-0.0 c.in_err-next.ensures)

pub check_cases-parts-preserved : goal.check_cases-parts-preserved
check_cases-parts-preserved m c =
    let t = at_hand c.args.walk.now.task.now (map vec_items c.args.rows.now) in
    let nodes = nodes_seen c.args.walk.now.nodes.now in
    let rule = rule_at t c.args.cases.simplex in
    let low = c.parts-test.true in
    let count = c.requires.count in
    let part = ap (λ rows. at_hand c.args.walk.now.task.now (map vec_items rows)) c.deref.ensures.value in
    case_judged nodes c.args.levels c.args.cases.simplex t (at_hand c.args.walk.now.task.now (map vec_items c.deref.result.now)) (at_hand c.args.walk.now.task.now (map vec_items c.in_ok-part.part.items)) (components rule) c.parts.number c.args.place c.parts.next (omega (arith, low, count)) part c.in_ok-part.ensures.case c.parts.invariant
    c.in_ok-next.next c.in_ok-next.ensures
