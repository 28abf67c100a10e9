-- What read_words promises of a job.
use Rattle.std.specs.Prelude.{◌<◌, ◌≤◌}
use Rattle.wf_model.specs.Limits.{most_workers}
use Rattle.wf_cli_args.specs.declared.asked.Job.{Job}
use Rattle.wf_cli_args.specs.declared.asked.Job.TheVariants.{WithFile, Alone}
use Rattle.wf_cli_args.specs.declared.asked.StdinJob.{StdinJob}
use Rattle.wf_cli_args.specs.declared.asked.StdinJob.TheVariants as lone

-- one worker at least, and no more than a run may have
abbrev pub CanBeDoneAlone : StdinJob → Type 0
CanBeDoneAlone (lone.Solve asked) = (0 < asked.workers) × (asked.workers ≤ most_workers)
CanBeDoneAlone what = Unit {0}

abbrev pub CanBeDone : Job → Type 0
CanBeDone (WithFile task what) = Unit {0}
CanBeDone (Alone what) = CanBeDoneAlone what
