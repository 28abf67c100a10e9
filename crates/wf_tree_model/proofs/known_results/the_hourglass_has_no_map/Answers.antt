use Rattle.std.proofs.Common.{refl}
use Rattle.wf_tree_model.specs.KnownResults.{hourglass, hourglass_by_cases, hourglass_tree}
use Rattle.wf_tree_model.proofs.ComputedTrees.{never_by_tree, tree_is}
use Rattle.wf_tree_model.proofs.known_results.the_hourglass_has_no_map.Goals as goal

pub returns : goal.returns
returns c = record {
  none = never_by_tree (hourglass 1) hourglass_tree refl refl refl refl;
  cases = record { all_words = refl; settled = tree_is hourglass_by_cases (hourglass 1) refl };
}
