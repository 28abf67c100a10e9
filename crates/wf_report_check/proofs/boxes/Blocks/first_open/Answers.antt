use Rattle.std.proofs.Common.{length, sym, ap, refl, ◌∙◌, arith, below_more}
use Rattle.wf_model.specs.Box.{first_open}
use Rattle.wf_report_check.specs.Blocks.{box_now}
use Rattle.wf_report_check.proofs.FirstLemmas.{first_open_is, none_open, two_at}
use Rattle.wf_report_check.proofs.SettledLemmas.{settled_at, settled_by}
use Rattle.wf_report_check.proofs.boxes.Blocks.first_open.Goals as goal

pub loop-point-init : goal.loop-point-init
loop-point-init c = (settled_at c.args.self.now.low c.args.self.now.sets.items c.args.self.now.settled, refl)

pub invariant_of-self : goal.invariant_of-self
invariant_of-self c = record {
  settled = settled_by c.loop-point.point c.loop-point.self.sets.items c.loop-point.invariant.0;
  way_settled = c.loop-point.self.way_settled;
}

pub returns-then-has_two-clause-open : goal.returns-then-has_two-clause-open
returns-then-has_two-clause-open c =
    let sets = c.loop-point.self.sets.items in
    let v = c.loop-point.point in
    sym (ap (λ blocks. first_open (box_now blocks)) (sym c.loop-point.invariant.1)
    ∙ first_open_is sets v (omega arith) c.loop-point.invariant.0 (two_at sets v c.index.result.now (omega arith) c.index.ensures ∙ sym c.has_two.ensures ∙ c.if-has_two.true))

pub returns-clause-open : goal.returns-clause-open
returns-clause-open c =
    let long = ap (λ blocks. length blocks.sets.items) c.loop-point.invariant.1 in
    sym (ap (λ blocks. first_open (box_now blocks)) (sym c.loop-point.invariant.1) ∙ none_open c.loop-point.self.sets.items c.loop-point.point (omega (arith, long, c.len-point-end.ensures)) c.loop-point.invariant.0)

pub loop-point-preserved : goal.loop-point-preserved
loop-point-preserved c =
    let sets = c.loop-point.self.sets.items in
    let v = c.loop-point.point in
    (below_more _ _ c.loop-point.invariant.0 (λ _. two_at sets v c.index.result.now (omega arith) c.index.ensures ∙ sym c.has_two.ensures ∙ c.if-has_two.false), c.loop-point.invariant.1)
