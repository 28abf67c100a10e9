use Rattle.std.proofs.Common.{refl}
use Rattle.wf_model.specs.Presets.{own, set_agreement}
use Rattle.wf_tree_model.specs.KnownResults.{one_decides_0}
use Rattle.wf_tree_model.specs.Trees.{balance}
use Rattle.wf_tree_model.proofs.ComputedTrees.{never_by_tree}
use Rattle.wf_tree_model.proofs.known_results.consensus_has_no_map.Goals as goal

pub returns : goal.returns
returns c = record {
  two = never_by_tree (set_agreement 2 1 own) (balance 2 1 (one_decides_0 2)) refl refl refl refl;
  three = never_by_tree (set_agreement 3 1 own) (balance 2 1 (one_decides_0 3)) refl refl refl refl;
  four = never_by_tree (set_agreement 4 1 own) (balance 2 1 (one_decides_0 4)) refl refl refl refl;
}
