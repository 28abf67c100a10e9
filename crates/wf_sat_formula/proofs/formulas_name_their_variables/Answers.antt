use Rattle.wf_sat_formula.proofs.Tasks.{names_variables}
use Rattle.wf_sat_formula.proofs.formulas_name_their_variables.Goals as goal

pub returns : goal.returns
returns c = names_variables
