use Rattle.wf_model.proofs.TreesAreSound.{none_refutes}
use Rattle.wf_model.proofs.refutations.no_tree_refutes_a_solution.Goals as goal

pub returns : goal.returns
returns c = λ p t box m in_range refutes solves. none_refutes p in_range m solves t box refutes
