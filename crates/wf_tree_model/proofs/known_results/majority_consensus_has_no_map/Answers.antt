use Rattle.std.proofs.Common.{[], ◌∷◌, refl}
use Rattle.wf_tree_model.specs.KnownResults.{majority_consensus, majority_tree}
use Rattle.wf_tree_model.proofs.ComputedTrees.{never_by_tree}
use Rattle.wf_tree_model.proofs.known_results.majority_consensus_has_no_map.Goals as goal

pub returns : goal.returns
returns c = never_by_tree (majority_consensus (0 ∷ 1 ∷ 1 ∷ [])) majority_tree refl refl refl refl
