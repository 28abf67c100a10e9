use Rattle.wf_tree_steps.proofs.OfBalance.Faults.{exact}
use Rattle.wf_tree_steps.proofs.balance.laws.no_fault_exactly_if_balance.Goals as goal

pub returns : goal.returns
returns c = exact
