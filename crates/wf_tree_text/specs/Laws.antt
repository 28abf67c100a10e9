-- Laws of the texts of obstructions.
use Rattle.std.specs.Prelude.{◌≡◌, ◌≤◌, ◌<◌, ℕ, true, List, [], ◌∷◌, All, length, Ok}
use Rattle.wf_model.specs.Limits.{most_number, most_processes, most_value}
use Rattle.wf_tree_model.specs.Balance.{Multiplier}
use Rattle.wf_tree_model.specs.Trees.{Move, Node, balance_node, case_node, cover_node, split_node}
use Rattle.wf_tree_text.specs.Text.{Obstruction, is_smaller, most_byte, move_key, multiplier_key, obstruction_of, obstruction_text}

abbrev pub Ascend : {X : Type 0} → (X → List ℕ) → List X → Type 0
Ascend key [] = Unit {0}
Ascend key (x ∷ []) = Unit {0}
Ascend key (x ∷ y ∷ xs) = (is_smaller (key x) (key y) ≡ true) × Ascend key (y ∷ xs)

-- a move of a cover with so many sheets
pub record IsMoveWithin (n : ℕ) (x : Move) : Type 0 where
  pub apart : x.first < x.second
  pub places : x.second < most_processes
  pub value : x.value ≤ most_value
  pub other : x.other ≤ most_value
  pub long : length x.sheets ≡ n
  pub sheets : All (λ sheet. sheet < n) x.sheets

pub record IsMultiplierWithin (x : Multiplier) : Type 0 where
  pub weight : x.weight ≤ most_number
  pub simplex : x.simplex ≤ most_number
  pub place : x.place < most_processes
  pub few : length x.others < most_processes
  pub values : All (λ value. value ≤ most_value) x.others

-- a simplex, a number of sheets, a corner and moves
pub record IsCoverWithin (i n c : ℕ) (xs : List Move) : Type 0 where
  pub simplex : i ≤ most_number
  pub some : 0 < n
  pub few : n ≤ most_byte
  pub corner : c ≤ most_byte
  pub moves : All (IsMoveWithin n) xs
  pub ascending : Ascend move_key xs

-- a modulus, a sum and multipliers
pub record IsBalanceWithin (m s : ℕ) (xs : List Multiplier) : Type 0 where
  pub modulus : m ≤ most_number
  pub sum : s ≤ most_number
  pub multipliers : All IsMultiplierWithin xs
  pub ascending : Ascend multiplier_key xs

-- a node that has lines: its numbers fit into them, and its moves or multipliers ascend
abbrev pub IsNodeWithin : Node → Type 0
IsNodeWithin (case_node simplex) = simplex ≤ most_number
IsNodeWithin (split_node simplex) = simplex ≤ most_number
IsNodeWithin (cover_node simplex sheets corner moves) = IsCoverWithin simplex sheets corner moves
IsNodeWithin (balance_node modulus sum xs) = IsBalanceWithin modulus sum xs

-- an obstruction that has a text
pub record IsInGrammar (o : Obstruction) : Type 0 where
  pub processes : o.processes ≤ most_number
  pub simplices : o.simplices ≤ most_number
  pub nodes : All IsNodeWithin o.nodes

-- the text of an obstruction reads as that obstruction
abbrev pub ObstructionsAreReadAsWritten : Type 0
ObstructionsAreReadAsWritten = (o : Obstruction) → IsInGrammar o → obstruction_of (obstruction_text o) ≡ Ok o

-- what is read as an obstruction is its text
abbrev pub ObstructionsAreWrittenAsRead : Type 0
ObstructionsAreWrittenAsRead = (text : List ℕ) (o : Obstruction) → obstruction_of text ≡ Ok o → (obstruction_text o ≡ text) × IsInGrammar o
