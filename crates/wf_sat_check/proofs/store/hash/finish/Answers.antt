use Rattle.std.proofs.Common.{refl}
use Rattle.wf_sat_check.specs.Store.Index.{finished}
use Rattle.wf_sat_check.proofs.store.hash.finish.Goals as goal

pub returns : goal.returns
unfolding finished
returns c = refl
