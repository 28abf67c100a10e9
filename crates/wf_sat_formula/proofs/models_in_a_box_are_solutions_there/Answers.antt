use Rattle.wf_sat_formula.proofs.Branches.{gives_solution_in, is_model_in, exactly_in}
use Rattle.wf_sat_formula.proofs.models_in_a_box_are_solutions_there.Goals as goal

pub returns : goal.returns
returns c = record { models = gives_solution_in; solutions = is_model_in; exactly = exactly_in }
