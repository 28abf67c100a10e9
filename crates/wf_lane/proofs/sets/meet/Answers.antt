use Rattle.std.proofs.Common.{[], arith, ◌∙◌}
use Rattle.std.proofs.lemmas.List.{get_or-set_other}
use Rattle.wf_lane.proofs.BoxLaws.{met_more}
use Rattle.wf_lane.proofs.sets.meet.Goals as goal

pub loop-i-preserved : goal.loop-i-preserved
loop-i-preserved c =
    let sets = c.loop-i.sets in
    let i = c.loop-i.i in
    let inv = c.loop-i.invariant in
    record {
      met = met_more c.args.sets.now c.args.others.now sets i c.intersection.result (omega arith) c.intersection.ensures (inv.rest i (omega arith)) inv.met;
      rest = λ k le. get_or-set_other sets i k c.intersection.result [] (λ e. absurd (omega (arith, e, le))) ∙ inv.rest k (omega (arith, le));
    }

pub returns : goal.returns
returns c = λ k lt. c.loop-i.invariant.met k (omega arith)
