use Rattle.std.proofs.Common.{arith}
use Rattle.wf_tree_refine.proofs.ForestSteps.{merged_write}
use Rattle.wf_tree_refine.proofs.roots.join.Goals as goal

pub returns-clause-forest : goal.returns-clause-forest
returns-clause-forest c = λ label f.
    let one = c.root_of-one.ensures.forest label f in
    let two = c.root_of-other.ensures.forest label one in
    merged_write c.args.parents.now c.root_of-other.new.parents label c.args.first c.args.second c.root_of-one.result c.root_of-other.result c.max.result c.min.result c.requires.first c.requires.second (omega arith) (omega arith) (omega arith) c.max.ensures c.min.ensures (c.root_of-one.ensures.root label f) (c.root_of-other.ensures.root label one) f two
