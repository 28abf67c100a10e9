-- What the nodes of the code say of moduli is what those of the definitions say.
use Rattle.std.proofs.Common.{◌≡◌, ◌&&◌, List, [], ◌∷◌, refl, ap}
use Rattle.std.specs.List.{list_all}
use Rattle.wf_tree_text.specs.Seen.{node_seen, nodes_seen}
use Rattle.wf_tree_text.specs.declared.obstruction.TreeNode as code_node
use Rattle.wf_run_obstruction.specs.declared.search.ObstructionSpec.{ObstructionSpec}
use Rattle.wf_run_obstruction.specs.Finding.{is_tried_at}

pub tried_seen : (wanted : ObstructionSpec) (nodes : List code_node.TreeNode) → list_all (is_tried_at wanted) (nodes_seen nodes) ≡ list_all (λ n. is_tried_at wanted (node_seen n)) nodes
tried_seen wanted [] = refl
tried_seen wanted (n ∷ nodes) = ap (λ b. is_tried_at wanted (node_seen n) && b) (tried_seen wanted nodes)
