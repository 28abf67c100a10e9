use Rattle.wf_run_branches.proofs.JoinedTruth.{joins_true}
use Rattle.wf_run_branches.proofs.laws.joins_are_true.Goals as goal

pub returns : goal.returns
returns c = joins_true
