use Rattle.wf_model.proofs.LinesToMaps.{canonical_leads}
use Rattle.wf_model.proofs.least_trees.the_canonical_lines_lead_to_the_map.Goals as goal

pub returns : goal.returns
returns c = canonical_leads
