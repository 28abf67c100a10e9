use Rattle.std.proofs.Common.{◌≡◌, drop}
use Rattle.std.specs.List.{list_all}
use Rattle.wf_tree_text.specs.Seen.{node_seen, nodes_seen}
use Rattle.wf_run_obstruction.specs.Finding.{is_tried_at}
use Rattle.wf_run_obstruction.proofs.run.are_allowed.Given as goal

abbrev pub invariant-nodes : goal.invariant-nodes
invariant-nodes l = list_all (λ n. is_tried_at l.wanted (node_seen n)) (drop l.node-index l.nodes) ≡ list_all (is_tried_at l.wanted) (nodes_seen l.nodes)
