use Rattle.wf_run_branches.proofs.JoinLimits.{parts_joined}
use Rattle.wf_run_branches.proofs.laws.parts_of_searches_are_joined.Goals as goal

pub returns : goal.returns
returns c = parts_joined
