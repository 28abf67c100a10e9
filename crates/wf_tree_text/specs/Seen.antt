-- The obstructions of the code and those of the definitions, and what is read of a text.
use Rattle.std.specs.Prelude.{◌≡◌, ◌≤◌, ◌<◌, ℕ, List, length, map, Result, Ok, Err}
use Rattle.wf_model.specs.Limits.{most_bytes}
use Rattle.wf_report.specs.declared.fault.CertFault.{CertFault}
use Rattle.wf_report.specs.declared.fault.CertFault.TheVariants.{TooLong, Syntax, OutOfMemory}
use Rattle.wf_tree_model.specs.Trees.{Node, balance_node, case_node, cover_node, split_node}
use Rattle.wf_tree_steps.specs.Balance.Multipliers.{multipliers_seen}
use Rattle.wf_tree_steps.specs.Cover.Faults.{moves_seen}
use Rattle.wf_tree_text.specs.Text.{Obstruction, obstruction_of}
use Rattle.wf_tree_text.specs.declared.obstruction.TreeNode as code_node
use Rattle.wf_tree_text.specs.declared.obstruction.TreeNode.TheVariants as node
use Rattle.wf_tree_text.specs.declared.obstruction.Obstruction as code

abbrev pub node_seen : code_node.TreeNode → Node
node_seen (node.Case simplex) = case_node simplex
node_seen (node.Split simplex) = split_node simplex
node_seen (node.Cover c) = cover_node c.simplex c.sheets c.corner (moves_seen c.moves.items)
node_seen (node.Balance b) = balance_node b.modulus b.sum (multipliers_seen b.multipliers.items)

abbrev pub nodes_seen : List code_node.TreeNode → List Node
nodes_seen nodes = map node_seen nodes

abbrev pub obstruction_seen : code.Obstruction → Obstruction
obstruction_seen o = record { processes = o.processes; simplices = o.simplices; nodes = nodes_seen o.nodes.items }

-- a text within the limit is read as the definitions say; a longer one is too long, whatever it is
abbrev pub IsRead : Result code.Obstruction CertFault → List ℕ → Type 0
IsRead (Ok o) text = (length text ≤ most_bytes) × (obstruction_of text ≡ Ok (obstruction_seen o))
IsRead (Err TooLong) text = most_bytes < length text
IsRead (Err (Syntax k)) text = (length text ≤ most_bytes) × (obstruction_of text ≡ Err k)
IsRead (Err OutOfMemory) text = length text ≤ most_bytes
IsRead (Err e) text = ⊥
