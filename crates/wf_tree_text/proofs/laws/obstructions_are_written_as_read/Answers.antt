use Rattle.wf_tree_text.proofs.ReadBack.{read_written}
use Rattle.wf_tree_text.proofs.laws.obstructions_are_written_as_read.Goals as goal

pub returns : goal.returns
returns c = read_written
