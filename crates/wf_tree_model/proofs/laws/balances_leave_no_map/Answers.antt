use Rattle.wf_tree_model.proofs.BalancesLeaveNoMap.{balance_leaves_no_map}
use Rattle.wf_tree_model.proofs.Inputs.{has_input_complex}
use Rattle.wf_tree_model.proofs.laws.balances_leave_no_map.Goals as goal

pub returns : goal.returns
returns c = λ t modulus sum xs r task words is. balance_leaves_no_map t modulus sum xs (has_input_complex t task) words is r
