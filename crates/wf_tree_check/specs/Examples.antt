-- Worked examples, by computation: what the checker answers of the hourglass.
use Rattle.std.specs.Prelude.{◌≡◌, List, [], ◌∷◌, ◌++◌, drop, replicate, take, None, Some, refl}
use Rattle.wf_model.specs.ExampleTasks.{renaming_2_2}
use Rattle.wf_tree_model.specs.KnownResults.{hourglass, hourglass_by_cases, hourglass_tree}
use Rattle.wf_tree_model.specs.Trees.{Node, case_node, cover_node, nodes_of, split_node}
use Rattle.wf_tree_steps.specs.declared.balance.fault.BalanceFault.TheVariants.{NotBalanced}
use Rattle.wf_tree_check.specs.Judge.{fault_of}
use Rattle.wf_tree_steps.specs.declared.cover.cover.CoverFault.TheVariants.{NoCorner, NoSheet, OneParticipant}
use Rattle.wf_tree_check.specs.declared.fault.Limit.TheVariants.{Depth, Names}
use Rattle.wf_tree_check.specs.declared.fault.TreeFault.TheVariants.{Behind, NoBalance, NoCover, NoNode, NoSimplex, Symmetric, TooLarge}

abbrev nodes : List Node
nodes = nodes_of hourglass_tree

pub a_split_is_accepted : fault_of (hourglass 1) nodes ≡ None
a_split_is_accepted = refl

pub cases_are_accepted : fault_of (hourglass 1) (nodes_of hourglass_by_cases) ≡ None
cases_are_accepted = refl

-- the tree ends after its first node, or goes on behind its last
pub a_node_is_missing : fault_of (hourglass 1) (take 1 nodes) ≡ Some (NoNode 1)
a_node_is_missing = refl

pub the_second_case_is_missing : fault_of (hourglass 1) (take 2 (nodes_of hourglass_by_cases)) ≡ Some (NoNode 2)
the_second_case_is_missing = refl

pub a_node_too_many : fault_of (hourglass 1) (nodes ++ split_node 6 ∷ []) ≡ Some (Behind 2)
a_node_too_many = refl

pub no_such_simplex : fault_of (hourglass 1) (case_node 7 ∷ []) ≡ Some (NoSimplex 0)
no_such_simplex = refl

-- without the split, process 0 decides 1 with a process that decides 2
pub a_balance_of_another_task : fault_of (hourglass 1) (drop 1 nodes) ≡ Some (NoBalance 0 (NotBalanced 3 2))
a_balance_of_another_task = refl

pub a_symmetric_task_is_not_split : fault_of renaming_2_2 (split_node 2 ∷ []) ≡ Some (Symmetric 0)
a_symmetric_task_is_not_split = refl

pub a_cover_of_one : fault_of (hourglass 1) (cover_node 0 2 0 [] ∷ []) ≡ Some (NoCover 0 OneParticipant)
a_cover_of_one = refl

pub a_cover_without_a_corner : fault_of (hourglass 1) (cover_node 6 2 3 [] ∷ []) ≡ Some (NoCover 0 NoCorner)
a_cover_without_a_corner = refl

pub a_cover_without_a_sheet : fault_of (hourglass 1) (cover_node 6 0 0 [] ∷ []) ≡ Some (NoCover 0 NoSheet)
a_cover_without_a_sheet = refl

-- each sheet has three names: 255 in all, and 258
pub a_cover_within_all_names : fault_of (hourglass 1) (cover_node 6 85 0 [] ∷ []) ≡ Some (NoNode 1)
a_cover_within_all_names = refl

pub a_cover_with_too_many_names : fault_of (hourglass 1) (cover_node 6 86 0 [] ∷ []) ≡ Some (TooLarge 0 Names)
a_cover_with_too_many_names = refl

-- the last of these nodes has no level left
pub too_many_levels : fault_of (hourglass 1) (replicate 65 (case_node 0)) ≡ Some (TooLarge 64 Depth)
too_many_levels = refl
