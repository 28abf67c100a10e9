use Rattle.wf_run_branches.proofs.JoinedTruth.{joins_accepted}
use Rattle.wf_run_branches.proofs.laws.joins_are_accepted.Goals as goal

pub returns : goal.returns
returns c = joins_accepted
