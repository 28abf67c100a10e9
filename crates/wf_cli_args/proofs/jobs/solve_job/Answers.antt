use Rattle.std.proofs.Common.{subst, ◌<◌, ◌≤◌}
use Rattle.std.specs.Prelude.{IfSome}
use Rattle.wf_model.specs.Limits.{most_workers}
use Rattle.wf_cli_args.proofs.jobs.solve_job.Goals as goal

pub returns-in-None-clause-can_be_done : goal.returns-in-None-clause-can_be_done
returns-in-None-clause-can_be_done c =
    subst (λ o. IfSome o (λ w. (0 < w) × (w ≤ most_workers))) c.in_ok-workers.ensures.ok_part c.workers.ensures.limits
