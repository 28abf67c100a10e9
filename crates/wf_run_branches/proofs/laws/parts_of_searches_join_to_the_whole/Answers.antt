use Rattle.wf_run_branches.proofs.JoinedSearches.{parts_join}
use Rattle.wf_run_branches.proofs.laws.parts_of_searches_join_to_the_whole.Goals as goal

pub returns : goal.returns
returns c = parts_join
