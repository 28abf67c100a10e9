use Rattle.std.proofs.Common.{refl}
use Rattle.wf_tree_model.specs.KnownResults.{loop_agreement, punctured_torus, torus_tree}
use Rattle.wf_tree_model.proofs.ComputedTrees.{never_by_tree}
use Rattle.wf_tree_model.proofs.known_results.loops_on_a_punctured_torus_have_no_map.Goals as goal

pub returns : goal.returns
returns c = never_by_tree (loop_agreement punctured_torus) torus_tree refl refl refl refl
