use Rattle.std.proofs.Common.{map, arith, vec_items}
use Rattle.std.proofs.lemmas.List.{length-map}
use Rattle.wf_tree_check.proofs.Entering.{case_past, case_there}
use Rattle.wf_tree_check.proofs.enter.enter_case.Goals as goal

pub returns-then-simplex-rows : goal.returns-then-simplex-rows
returns-then-simplex-rows c = λ levels behind.
    let long = length-map c.args.rows.now vec_items in
    let high = c.if-simplex-rows.true in
    case_past c.args.walk.now.task.now (map vec_items c.args.rows.now) c.args.simplex levels c.args.place behind c.requires (omega (arith, long, high))

pub returns : goal.returns
returns c = λ levels behind.
    let long = length-map c.args.rows.now vec_items in
    let low = c.if-simplex-rows.false in (
      omega (arith, long, low),
      c.in_ok-count.ensures,
      case_there c.args.walk.now.task.now (map vec_items c.args.rows.now) c.args.simplex levels c.args.place behind c.requires (omega (arith, long, low)),
    )
