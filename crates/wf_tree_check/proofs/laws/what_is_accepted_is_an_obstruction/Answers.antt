use Rattle.wf_tree_check.proofs.Judged.{accepted}
use Rattle.wf_tree_check.proofs.laws.what_is_accepted_is_an_obstruction.Goals as goal

pub returns : goal.returns
returns c = accepted
