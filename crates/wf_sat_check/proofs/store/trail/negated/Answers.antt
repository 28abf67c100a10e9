use Rattle.wf_sat_check.proofs.OfStore.TrailLemmas.{holds_code-negated}
use Rattle.wf_sat_check.proofs.store.trail.negated.Goals as goal

pub returns-clause-sound : goal.returns-clause-sound
returns-clause-sound c = λ a. holds_code-negated a _
