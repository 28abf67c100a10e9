use Rattle.std.proofs.Common.{refl}
use Rattle.wf_tree_model.specs.KnownResults.{symmetry_breaking}
use Rattle.wf_tree_model.specs.KnownResults.{four_bits, three_bits}
use Rattle.wf_tree_model.specs.Trees.{balance}
use Rattle.wf_tree_model.proofs.ComputedTrees.{never_by_tree}
use Rattle.wf_tree_model.proofs.known_results.symmetry_breaking_has_no_map.Goals as goal

pub returns : goal.returns
returns c = record {
  three = never_by_tree (symmetry_breaking 3) (balance 3 1 three_bits) refl refl refl refl;
  four = never_by_tree (symmetry_breaking 4) (balance 2 1 four_bits) refl refl refl refl;
}
