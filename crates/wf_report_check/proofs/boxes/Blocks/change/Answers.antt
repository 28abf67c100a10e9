use Rattle.std.proofs.Common.{◌++◌, ◌∷◌, [], ◌∙◌, ap, arith}
use Rattle.std.specs.List.{slice_set}
use Rattle.wf_report_check.specs.Blocks.{later}
use Rattle.wf_report_check.specs.declared.boxes.TrailEntry.TheVariants.{Was}
use Rattle.wf_report_check.proofs.BlockLemmas.{later_changed}
use Rattle.wf_report_check.proofs.SettledLemmas.{settled_set, way_changed}
use Rattle.wf_report_check.proofs.boxes.Blocks.change.Goals as goal

pub returns-in_ok-push-clause-later : goal.returns-in_ok-push-clause-later
returns-in_ok-push-clause-later c =
    let words = c.args.self.now.sets.items in
    let trail = c.args.self.now.trail.items in
    let changed = slice_set words c.args.point c.args.set in
    ap (λ es. later es changed) c.in_ok-push.ensures.items
    ∙ ap (λ w. later (trail ++ Was c.args.point w ∷ []) changed) c.index-before.ensures
    ∙ later_changed trail words c.args.point c.args.set c.index-before.result.now

pub invariant_of-self-then-point-len : goal.invariant_of-self-then-point-len
invariant_of-self-then-point-len c =
    let blocks = c.args.self.now in record {
      settled = settled_set blocks.low c.min-self.result c.args.point blocks.sets.items c.args.set (omega (arith, c.min-self.ensures)) (omega (arith, c.min-self.ensures)) blocks.settled;
      way_settled = way_changed blocks.trail.items c.push.new.self.items blocks.sets.items c.args.point c.args.set c.index-before.result.now c.in_ok-push.ensures.items c.index-before.ensures blocks.way_settled;
    }
