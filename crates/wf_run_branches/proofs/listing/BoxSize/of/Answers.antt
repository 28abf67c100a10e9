use Rattle.std.proofs.Common.{ap, length, ◌∙◌, arith}
use Rattle.wf_run_branches.proofs.Lines.{few_values, next_sized}
use Rattle.wf_run_branches.proofs.listing.BoxSize.of.Goals as goal

pub with-size-requires-clause-candidates : goal.with-size-requires-clause-candidates
with-size-requires-clause-candidates c =
    let sized = c.loop-point.invariant in
    let few = few_values c.candidates.result in
    let counted = c.count.ensures in
    let most = c.points-point-end.ensures.few in
    let low = c.loop-point-test.true in
    let end = c.loop-point.auto.point-end in
    omega (arith, sized.few_left, few, counted, most, low, end)

pub loop-point-preserved : goal.loop-point-preserved
loop-point-preserved c =
    let sized = c.loop-point.invariant in
    let few = few_values c.candidates.result in
    let counted = c.count.ensures in
    let most = c.points-point-end.ensures.points in
    let low = c.loop-point-test.true in
    let end = c.loop-point.auto.point-end in
    let next = next_sized c.args.boxed.now.sets c.loop-point.point c.loop-point.size.open c.loop-point.size.candidates c.count.result
    (omega (arith, low, end, most)) sized (counted ∙ ap length c.candidates.ensures) (omega (arith, counted, few)) in
    let is_open = c.with-size.ensures.open in
    let is_left = c.with-size.ensures.candidates in
    record {
      open_is = is_open ∙ next.open_is;
      left_is = is_left ∙ next.left_is;
      few_open = omega (arith, is_open, next.few_open);
      few_left = omega (arith, is_left, next.few_left);
    }
