use Rattle.wf_tree_model.proofs.CaseMaps.{cases_leave}
use Rattle.wf_tree_model.proofs.Inputs.{has_input_complex}
use Rattle.wf_tree_model.proofs.laws.cases_leave_no_map.Goals as goal

pub returns : goal.returns
returns c = λ t of r task words listed none. cases_leave t of r (has_input_complex t task) words listed none
