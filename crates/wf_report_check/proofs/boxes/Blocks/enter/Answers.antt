use Rattle.std.proofs.Common.{◌∙◌, ap}
use Rattle.wf_report_check.specs.Blocks.{later}
use Rattle.wf_report_check.proofs.BlockLemmas.{entered}
use Rattle.wf_report_check.proofs.boxes.Blocks.enter.Goals as goal

pub returns-clause-boxes : goal.returns-clause-boxes
returns-clause-boxes c =
    let sets = c.args.self.now.sets.items in
    entered c.args.self.now.trail.items sets c.args.point c.args.self.now.low c.args.values c.in-Some.split.0 c.singleton.result c.in-Some.split.1 c.change.new.self.sets.items
    c.singleton.ensures c.in-Some.ensures c.in_ok-change.ensures.sets
    (c.in_ok-change.ensures.later ∙ ap (λ es. later es sets) c.in_ok-push.ensures.items)
