use Rattle.std.proofs.Common.{◌≡◌, ◌≤◌, ◌+◌, length, drop, take}
use Rattle.wf_tree_text.specs.Seen.{nodes_seen}
use Rattle.wf_tree_text.specs.Text.{lines_of_nodes}
use Rattle.wf_tree_text.proofs.place.line_of.Given as goal

abbrev pub invariant-loop-before : goal.invariant-loop-before
invariant-loop-before l =
    (l.lines + length (lines_of_nodes (nodes_seen (drop l.before-index l.before-items))) ≡ length (lines_of_nodes (nodes_seen (take l.node l.nodes))))
    × (length (lines_of_nodes (nodes_seen (take l.node l.nodes))) ≤ 16777216)
