use Rattle.std.proofs.Common.{ap, length, ◌∙◌}
use Rattle.wf_core.specs.Core.{State}
use Rattle.wf_core.proofs.EventNeeds.{allowed}
use Rattle.wf_core.proofs.Runs.{sizes_step}
use Rattle.wf_core.proofs.machine.Core.step.Goals as goal

pub returns-clause-legal : goal.returns-clause-legal
returns-clause-legal c = allowed c.args.self.now c.args.event c.in_ok-check.ensures.needs

pub returns-clause-sizes : goal.returns-clause-sizes
returns-clause-sizes c =
    let same = sizes_step c.args.self.now c.args.event in
    (ap (λ (s : State). length s.branches) c.apply.ensures ∙ same.branches, ap (λ (s : State). length s.seen) c.apply.ensures ∙ same.seen)
