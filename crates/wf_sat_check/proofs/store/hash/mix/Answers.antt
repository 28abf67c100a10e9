use Rattle.wf_sat_check.specs.Store.Index.{mixed}
use Rattle.wf_sat_check.proofs.store.hash.mix.Goals as goal

pub returns : goal.returns
unfolding mixed
returns c = c.finish.ensures
