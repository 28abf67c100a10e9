use Rattle.wf_sat_formula.proofs.Branches.{branches_unsatisfiable}
use Rattle.wf_sat_formula.proofs.the_branches_are_unsatisfiable_exactly_where_there_is_no_decision_map.Goals as goal

pub returns : goal.returns
returns c = branches_unsatisfiable
