use Rattle.wf_sat_check.proofs.OfRup.PropagationLaws.{what_follows}
use Rattle.wf_sat_check.proofs.rup.laws.what_follows_is_entailed.Goals as goal

pub returns : goal.returns
returns c = what_follows
