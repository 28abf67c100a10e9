use Rattle.wf_sat_formula.proofs.Tasks.{model_decides, map_states}
use Rattle.wf_sat_formula.proofs.models_are_decision_maps.Goals as goal

pub returns : goal.returns
returns c = record { models = model_decides; maps = map_states }
