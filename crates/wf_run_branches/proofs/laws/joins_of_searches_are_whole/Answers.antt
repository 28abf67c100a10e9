use Rattle.wf_run_branches.proofs.JoinedSearches.{joins_whole}
use Rattle.wf_run_branches.proofs.laws.joins_of_searches_are_whole.Goals as goal

pub returns : goal.returns
returns c = joins_whole
