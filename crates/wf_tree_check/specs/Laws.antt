-- Why what the checker accepts is an obstruction, and what it refuses is none.
use Rattle.std.specs.Prelude.{◌≡◌, ℕ, List, None, Some}
use Rattle.wf_model.specs.Task.{Task}
use Rattle.wf_tree_model.specs.Trees.{IsObstruction, Node, Tree, nodes_of}
use Rattle.wf_tree_check.specs.Judge.{fault_of}
use Rattle.wf_tree_check.specs.declared.fault.Limit.{Limit}
use Rattle.wf_tree_check.specs.declared.fault.TreeFault.{TreeFault}
use Rattle.wf_tree_check.specs.declared.fault.TreeFault.TheVariants.{TooLarge}

-- nodes without a fault are those of an obstruction, in preorder
abbrev pub WhatIsAcceptedIsAnObstruction : Type 0
WhatIsAcceptedIsAnObstruction = (t : Task) (nodes : List Node) → fault_of t nodes ≡ None
    → (tree : Tree) × (nodes_of tree ≡ nodes) × IsObstruction t tree

-- nodes with a fault are those of no obstruction, unless they are above a limit
abbrev pub WhatIsRefusedIsNone : Type 0
WhatIsRefusedIsNone = (t : Task) (nodes : List Node) (fault : TreeFault) → fault_of t nodes ≡ Some fault
    → ((k : ℕ) (limit : Limit) → fault ≡ TooLarge k limit → ⊥)
    → (tree : Tree) → nodes_of tree ≡ nodes → IsObstruction t tree → ⊥
