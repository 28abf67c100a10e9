use Rattle.wf_tree_text.proofs.Written.{written_read}
use Rattle.wf_tree_text.proofs.laws.obstructions_are_read_as_written.Goals as goal

pub returns : goal.returns
returns c = written_read
