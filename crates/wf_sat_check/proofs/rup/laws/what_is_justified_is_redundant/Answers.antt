use Rattle.wf_sat_check.proofs.OfRup.PropagationLaws.{what_is_justified}
use Rattle.wf_sat_check.proofs.rup.laws.what_is_justified_is_redundant.Goals as goal

pub returns : goal.returns
returns c = what_is_justified
