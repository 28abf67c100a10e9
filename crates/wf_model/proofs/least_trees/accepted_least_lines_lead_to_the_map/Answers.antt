use Rattle.wf_model.proofs.LeastChecked.{accepted_leads}
use Rattle.wf_model.proofs.least_trees.accepted_least_lines_lead_to_the_map.Goals as goal

pub returns : goal.returns
returns c = accepted_leads
