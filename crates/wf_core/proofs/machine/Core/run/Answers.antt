use Rattle.std.proofs.Common.{◌∙◌}
use Rattle.std.proofs.lemmas.List.{length-replicate}
use Rattle.wf_core.specs.declared.event.Status.TheVariants.{Free}
use Rattle.wf_core.specs.Core.{start}
use Rattle.wf_core.proofs.Runs.{run_at, sizes_run}
use Rattle.wf_core.proofs.machine.Core.run.Goals as goal

pub loop-at-preserved : goal.loop-at-preserved
loop-at-preserved c =
    run_at (start c.args.branches c.args.workers) c.loop-at.core c.step.new.self c.args.events.now c.loop-at.at _ c.loop-at.invariant c.loop-at-test.true c.in_default.ensures.ok

pub returns-clause-sizes : goal.returns-clause-sizes
returns-clause-sizes c =
    let same = sizes_run (start c.args.branches c.args.workers) c.loop-at.core _ c.loop-at.invariant in (
      same.branches ∙ length-replicate c.args.branches Free,
      same.seen ∙ length-replicate c.args.workers c.args.branches,
    )
