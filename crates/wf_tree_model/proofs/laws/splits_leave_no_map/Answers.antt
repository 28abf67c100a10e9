use Rattle.wf_tree_model.proofs.SplitMaps.{splits_leave}
use Rattle.wf_tree_model.proofs.Inputs.{has_input_complex, setting}
use Rattle.wf_tree_model.proofs.laws.splits_leave_no_map.Goals as goal

pub returns : goal.returns
returns c = λ t s r task words plain is none. splits_leave t s r (setting t (has_input_complex t task) words plain s.rule is.listed) is none
