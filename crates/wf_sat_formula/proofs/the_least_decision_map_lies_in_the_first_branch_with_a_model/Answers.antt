use Rattle.wf_sat_formula.proofs.Branches.{least_in_first}
use Rattle.wf_sat_formula.proofs.the_least_decision_map_lies_in_the_first_branch_with_a_model.Goals as goal

pub returns : goal.returns
returns c = λ t r i task. least_in_first t r task i
