use Rattle.wf_model.proofs.OutlinesAsSearches.{filled_leads}
use Rattle.wf_model.proofs.outlines.a_filled_outline_leads_to_the_map.Goals as goal

pub returns : goal.returns
returns c = filled_leads
