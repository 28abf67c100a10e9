use Rattle.std.proofs.Common.{◌≡◌, drop}
use Rattle.std.specs.List.{list_any}
use Rattle.wf_tree_text.specs.Seen.{node_seen, nodes_seen}
use Rattle.wf_tree_explain.specs.Words.{is_signed}
use Rattle.wf_tree_explain.proofs.argument.is_any_signed.Given as goal

abbrev pub invariant-nodes : goal.invariant-nodes
invariant-nodes l = list_any (λ n. is_signed (node_seen n)) (drop l.node-index l.nodes) ≡ list_any is_signed (nodes_seen l.nodes)
