use Rattle.std.proofs.Common.{refl}
use Rattle.wf_model.specs.Presets.{own, set_agreement}
use Rattle.wf_tree_model.specs.KnownResults.{three_decided, two_decided}
use Rattle.wf_tree_model.specs.Trees.{balance}
use Rattle.wf_tree_model.proofs.ComputedTrees.{never_by_tree}
use Rattle.wf_tree_model.proofs.known_results.set_agreement_has_no_map.Goals as goal

pub returns : goal.returns
returns c = record {
  three = never_by_tree (set_agreement 3 2 own) (balance 2 1 two_decided) refl refl refl refl;
  four = never_by_tree (set_agreement 4 3 own) (balance 2 1 three_decided) refl refl refl refl;
}
