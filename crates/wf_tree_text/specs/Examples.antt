-- Worked examples, by computation.
use Rattle.std.specs.Prelude.{◌≡◌, ℕ, List, [], ◌∷◌, ◌++◌, Ok, Err, codes, refl}
use Rattle.std.specs.Fmt.{digits}
use Rattle.wf_model.specs.Report.{Reading}
use Rattle.wf_tree_model.specs.Balance.{Multiplier}
use Rattle.wf_tree_model.specs.Trees.{Move, Node, balance_node, case_node, cover_node, split_node}
use Rattle.wf_tree_text.specs.Text.{Obstruction, line_of, obstruction_of, obstruction_text}

-- these nodes, for three processes and seven simplices
abbrev of_three : List Node → Obstruction
of_three nodes = record { processes = 3; simplices = 7; nodes = nodes }

abbrev read : List ℕ → Reading Obstruction
read nodes = obstruction_of (codes "wfcheck obstruction 1\nprocesses 3\nsimplices 7\n" ++ nodes)

abbrev multiplier : ℕ → ℕ → ℕ → List ℕ → Multiplier
multiplier weight simplex place others = record { simplex = simplex; place = place; others = others; weight = weight }

-- the hourglass: the triangle is taken apart, and then one count says that there is no map
abbrev hourglass : List Node
hourglass = split_node 6 ∷ balance_node 2 1 (multiplier 1 1 0 [] ∷ multiplier 1 3 0 (1 ∷ []) ∷ multiplier 1 3 1 (1 ∷ []) ∷ []) ∷ []

pub hourglass_text : obstruction_text (of_three hourglass)
    ≡ codes "wfcheck obstruction 1\nprocesses 3\nsimplices 7\nsplit 6\nbalance 2 1\nm 1 1 0\nm 1 3 0 1\nm 1 3 1 1\nend\n"
unfolding digits
hourglass_text = refl

pub hourglass_read : read (codes "split 6\nbalance 2 1\nm 1 1 0\nm 1 3 0 1\nm 1 3 1 1\nend\n") ≡ Ok (of_three hourglass)
hourglass_read = refl

-- the last multiplier stands at line 8
pub last_multiplier : line_of hourglass 1 3 ≡ 8
last_multiplier = refl

-- a cover with a move, and a case below it
abbrev turned : Move
turned = record { first = 0; value = 1; second = 2; other = 3; sheets = 1 ∷ 0 ∷ [] }

pub cover_read : read (codes "cover 6 2 5\np 0 1 2 3 1 0\ncase 4\nend\n")
    ≡ Ok (of_three (cover_node 6 2 5 (turned ∷ []) ∷ case_node 4 ∷ []))
cover_read = refl

-- ---- bad lines

pub move_behind_split : read (codes "split 6\np 0 1 2 3 1 0\nend\n") ≡ Err 5
move_behind_split = refl

pub too_few_sheets : read (codes "cover 6 3 5\np 0 1 2 3 1 0\nend\n") ≡ Err 5
too_few_sheets = refl

pub no_such_sheet : read (codes "cover 6 2 5\np 0 1 2 3 1 2\nend\n") ≡ Err 5
no_such_sheet = refl

pub multiplier_twice : read (codes "balance 2 1\nm 1 3 0 1\nm 1 3 0 1\nend\n") ≡ Err 6
multiplier_twice = refl

-- the values of the others come last in the order
pub multipliers_ascend : read (codes "balance 2 1\nm 1 3 0 1\nm 1 3 1 0\nm 1 4 0\nend\n")
    ≡ Ok (of_three (balance_node 2 1 (multiplier 1 3 0 (1 ∷ []) ∷ multiplier 1 3 1 (0 ∷ []) ∷ multiplier 1 4 0 [] ∷ []) ∷ []))
multipliers_ascend = refl

-- there may be no node, and nothing comes behind the end
pub no_node : read (codes "end\n") ≡ Ok (of_three [])
no_node = refl

pub behind_the_end : read (codes "end\nend\n") ≡ Err 5
behind_the_end = refl

-- the end is missing
pub no_end : read (codes "split 6\n") ≡ Err 5
no_end = refl
