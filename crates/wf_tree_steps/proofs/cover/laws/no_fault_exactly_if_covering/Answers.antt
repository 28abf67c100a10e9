use Rattle.wf_tree_steps.proofs.OfCover.Coverings.{exact}
use Rattle.wf_tree_steps.proofs.cover.laws.no_fault_exactly_if_covering.Goals as goal

pub returns : goal.returns
returns c = exact
