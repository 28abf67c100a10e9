use Rattle.wf_model.proofs.LeastSolutions.{canonical_least}
use Rattle.wf_model.proofs.search.the_canonical_map_is_the_least_solution.Goals as goal

pub returns : goal.returns
returns c = canonical_least
