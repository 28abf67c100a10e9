use Rattle.wf_sat_formula.proofs.Branches.{box_names_variables}
use Rattle.wf_sat_formula.proofs.formulas_in_a_box_name_their_variables.Goals as goal

pub returns : goal.returns
returns c = box_names_variables
