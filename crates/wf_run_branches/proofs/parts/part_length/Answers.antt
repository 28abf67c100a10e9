use Rattle.std.proofs.Common.{arith, sym, ◌∙◌}
use Rattle.wf_run_branches.proofs.PartEnds.{left_open}
use Rattle.wf_run_branches.proofs.parts.part_length.Goals as goal

pub loop-at-preserved : goal.loop-at-preserved
loop-at-preserved c =
    let low = c.loop-at-test.true in
    let end = c.loop-at.auto.at-end in
    let kept = c.loop-at.invariant in
    let next = left_open c.args.text.now c.loop-at.at (omega (arith, low, end)) (sym c.ends_here.ensures ∙ c.if-ends_here.false) in
    omega (arith, kept, next)
