use Rattle.std.proofs.Common.{refl}
use Rattle.wf_tree_model.specs.KnownResults.{one_of_three, one_of_three_tree}
use Rattle.wf_tree_model.proofs.ComputedTrees.{never_by_tree}
use Rattle.wf_tree_model.proofs.known_results.one_of_three_has_no_map.Goals as goal

pub returns : goal.returns
returns c = never_by_tree one_of_three one_of_three_tree refl refl refl refl
