use Rattle.std.proofs.Common.{◌≡◌, ◌≤◌, ◌+◌, [], length}
use Rattle.wf_model.specs.Report.{lines_of}
use Rattle.wf_tree_text.specs.Seen.{nodes_seen}
use Rattle.wf_tree_text.specs.Text.{first_line, lines_of_nodes, nodes_from}
use Rattle.wf_tree_text.proofs.reading.read_nodes.Given as goal

abbrev pub invariant-lines : goal.invariant-lines
invariant-lines l =
    (nodes_from l.at (nodes_seen l.nodes.items) (lines_of l.rest) ≡ nodes_from first_line [] (lines_of l.text))
    × (l.at + length l.rest ≤ first_line + length l.text)
    × (length (lines_of_nodes (nodes_seen l.nodes.items)) + length l.rest ≤ length l.text)

abbrev pub decreases-lines : goal.decreases-lines
decreases-lines l = length l.rest
