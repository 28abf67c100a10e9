use Rattle.wf_sat_formula.proofs.Tasks.{unsatisfiable_where}
use Rattle.wf_sat_formula.proofs.the_formula_is_unsatisfiable_exactly_where_there_is_no_decision_map.Goals as goal

pub returns : goal.returns
returns c = unsatisfiable_where
