use Rattle.std.proofs.Common.{◌≡◌, ◌++◌, drop, flat_map, string_bytes}
use Rattle.wf_tree_text.specs.Seen.{nodes_seen}
use Rattle.wf_tree_text.specs.Text.{line_text, lines_of_nodes}
use Rattle.wf_tree_text.proofs.writing.put_nodes.Given as goal

abbrev pub invariant-loop-node : goal.invariant-loop-node
invariant-loop-node l =
    string_bytes l.text ++ flat_map line_text (lines_of_nodes (nodes_seen (drop l.node-index l.nodes))) ≡ string_bytes l.initial.text ++ flat_map line_text (lines_of_nodes (nodes_seen l.nodes))
