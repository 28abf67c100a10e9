-- Obstructions: trees of cases, splits and covers, whose leaves are balances.
use Rattle.std.specs.Prelude.{◌≡◌, ◌<◌, ◌==◌, ◌&&◌, ◌+◌, ◌*◌, ℕ, suc, max, false, Bool, List, [], ◌∷◌, ◌++◌, flat_map, length, slice_index_or, if◌then◌else◌}
use Rattle.wf_model.specs.Task.{Rule, Task, Tuple, first_block}
use Rattle.wf_tree_model.specs.Counting.Rules.{rule_at}
use Rattle.wf_tree_model.specs.Balance.{IsBalance, Multiplier}
use Rattle.wf_tree_model.specs.Cases.{components, in_case}
use Rattle.wf_tree_model.specs.Covers.{Covering, IsCovering, covered}
use Rattle.wf_tree_model.specs.Splits.{by_stars, split}

-- How sheets go over from one value at a place to another at a later place: the sheet there for
-- each sheet here.
pub record Move : Type 0 where
  pub first : ℕ
  pub value : ℕ
  pub second : ℕ
  pub other : ℕ
  pub sheets : List ℕ

-- A balance, by its modulus, sum and multipliers; a tree for each part of what the task at hand
-- allows on the simplex of this number in I; a tree for the task with the values of this simplex
-- taken apart; or a tree for the cover of this simplex with so many sheets, whose corner this is.
mutual
  pub data Tree : Type 0 where
    balance : ℕ → ℕ → List Multiplier → Tree
    by_cases : ℕ → Trees → Tree
    by_split : ℕ → Tree → Tree
    by_cover : ℕ → ℕ → ℕ → List Move → Tree → Tree

  pub data Trees : Type 0 where
    no_tree : Trees
    tree_before : Tree → Trees → Trees

-- ---- new names

abbrev pub largest : List ℕ → ℕ
largest [] = 0
largest (x ∷ xs) = max x (largest xs)

-- the first name above all that the task at hand has in its tuples
abbrev pub new_name : Task → ℕ
new_name t = suc (largest (flat_map (λ rule. flat_map (λ tuple. tuple) rule.tuples) t.delta))

-- ---- sheets

abbrev pub is_move : Move → ℕ → ℕ → ℕ → ℕ → Bool
is_move move i a j b = ((move.first == i) && (move.value == a)) && ((move.second == j) && (move.other == b))

-- the first place of the number in a list
abbrev pub position : ℕ → List ℕ → ℕ
position x [] = 0
position x (y ∷ ys) = if y == x then 0 else suc (position x ys)

-- as the first of these says, forth or back; where none does, a sheet goes with itself
abbrev pub move_by : List Move → ℕ → ℕ → ℕ → ℕ → ℕ → ℕ
move_by [] i a j b sheet = sheet
move_by (move ∷ moves) i a j b sheet =
    if is_move move i a j b then slice_index_or move.sheets sheet 0 else if is_move move j b i a then position sheet move.sheets
    else move_by moves i a j b sheet

-- the cover of a simplex where a value on sheet 0 keeps its name, and each further sheet has its
-- names above those of the sheet before
abbrev pub by_sheets : Task → Rule → ℕ → ℕ → List Move → Covering
by_sheets t rule sheets corner moves =
    record { rule = rule; corner = corner; sheets = sheets; move = move_by moves; name = λ value sheet. value + sheet * new_name t }

-- ---- trees

abbrev mutual
  pub IsTree : Tree → Task → Type 0
  IsTree (balance modulus sum xs) t = IsBalance t modulus sum xs
  IsTree (by_cases simplex trees) t = (simplex < length t.delta) × AreTrees trees t (rule_at t simplex) (components (rule_at t simplex))
  IsTree (by_split simplex tree) t =
      (t.symmetric ≡ false) × (simplex < length t.delta) × IsTree tree (split (by_stars (rule_at t simplex) (new_name t)) t)
  IsTree (by_cover simplex sheets corner moves tree) t =
      (t.symmetric ≡ false)
      × (simplex < length t.delta)
      × IsCovering t (by_sheets t (rule_at t simplex) sheets corner moves)
      × IsTree tree (covered (by_sheets t (rule_at t simplex) sheets corner moves) t)

  -- a tree for each part
  pub AreTrees : Trees → Task → Rule → List (List Tuple) → Type 0
  AreTrees no_tree t of [] = Unit {0}
  AreTrees no_tree t of (part ∷ parts) = ⊥
  AreTrees (tree_before tree trees) t of [] = ⊥
  AreTrees (tree_before tree trees) t of (part ∷ parts) = IsTree tree (in_case of part t) × AreTrees trees t of parts

-- a tree of a task in whose model a word may begin with a block of any size
pub record IsObstruction (t : Task) (tree : Tree) : Type 0 where
  pub all_words : first_block t ≡ 1
  pub settled : IsTree tree t

-- ---- in a row

-- a node without the trees below it
pub data Node : Type 0 where
  balance_node : ℕ → ℕ → List Multiplier → Node
  case_node : ℕ → Node
  split_node : ℕ → Node
  cover_node : ℕ → ℕ → ℕ → List Move → Node

-- the nodes in preorder: each before those of the trees below it, and these in their order
abbrev mutual
  pub nodes_of : Tree → List Node
  nodes_of (balance modulus sum xs) = balance_node modulus sum xs ∷ []
  nodes_of (by_cases simplex trees) = case_node simplex ∷ nodes_of_each trees
  nodes_of (by_split simplex tree) = split_node simplex ∷ nodes_of tree
  nodes_of (by_cover simplex sheets corner moves tree) = cover_node simplex sheets corner moves ∷ nodes_of tree

  pub nodes_of_each : Trees → List Node
  nodes_of_each no_tree = []
  nodes_of_each (tree_before tree trees) = nodes_of tree ++ nodes_of_each trees
