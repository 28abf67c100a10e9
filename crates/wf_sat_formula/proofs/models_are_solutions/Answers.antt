use Rattle.wf_sat_formula.proofs.Models.{gives_solution}
use Rattle.wf_sat_formula.proofs.Maps.{is_model}
use Rattle.wf_sat_formula.proofs.models_are_solutions.Goals as goal

pub returns : goal.returns
returns c = record { models = gives_solution; solutions = is_model }
