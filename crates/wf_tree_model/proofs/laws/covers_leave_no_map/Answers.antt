use Rattle.wf_tree_model.proofs.CoverMaps.{covers_leave}
use Rattle.wf_tree_model.proofs.Inputs.{has_input_complex, setting}
use Rattle.wf_tree_model.proofs.laws.covers_leave_no_map.Goals as goal

pub returns : goal.returns
returns c = λ t c r task words plain is none. covers_leave t c r (setting t (has_input_complex t task) words plain c.rule is.listed) is none
