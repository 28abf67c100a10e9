use Rattle.wf_tree_check.proofs.Judged.{refused}
use Rattle.wf_tree_check.proofs.laws.what_is_refused_is_none.Goals as goal

pub returns : goal.returns
returns c = refused
