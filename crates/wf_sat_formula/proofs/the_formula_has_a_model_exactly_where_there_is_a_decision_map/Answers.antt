use Rattle.wf_sat_formula.proofs.Tasks.{exactly_where}
use Rattle.wf_sat_formula.proofs.the_formula_has_a_model_exactly_where_there_is_a_decision_map.Goals as goal

pub returns : goal.returns
returns c = exactly_where
