use Rattle.std.proofs.Common.{arith, ap, ◌∙◌}
use Rattle.std.proofs.lemmas.Grind.{common_steps}
use Rattle.std.proofs.lemmas.Option.{gets}
use Rattle.std.specs.Prelude.{Some}
use Rattle.wf_core.proofs.Writes.{worker_at}
use Rattle.wf_core.proofs.machine.Core.active.Goals as goal

pub returns-clause-ok : goal.returns-clause-ok
returns-clause-ok c =
    let k = worker_at c.self.inside.branches.items c.self.inside.workers.items c.self.inside.least c.args.self.now c.args.w c.in-Some.worker.now c.self.view_is c.self.invariant (grind (arith, common_steps, gets)) in
    (k, k.ended ∙ ap Some c.if-worker.false)
