use Rattle.std.proofs.Common.{refl}
use Rattle.wf_model.specs.Presets.{renaming}
use Rattle.wf_tree_model.specs.KnownResults.{four_names}
use Rattle.wf_tree_model.specs.Trees.{balance}
use Rattle.wf_tree_model.proofs.ComputedTrees.{never_by_tree}
use Rattle.wf_tree_model.proofs.known_results.renaming_has_no_map.Goals as goal

pub returns : goal.returns
returns c = never_by_tree (renaming 3 4) (balance 3 1 four_names) refl refl refl refl
