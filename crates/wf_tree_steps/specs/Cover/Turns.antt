-- How the moves of a cover are looked up: by a place, a value, another place and its value.
use Rattle.std.specs.Prelude.{◌≡◌, ◌≤◌, ◌==◌, ◌&&◌, ◌+◌, ◌*◌, nat_lt, ℕ, suc, Bool, true, false, List, [], ◌∷◌, length, Option, None, Some, if◌then◌else◌}
use Rattle.std.specs.List.{AllByRecursion, list_all}
use Rattle.wf_model.specs.Lists.{below}
use Rattle.wf_model.specs.Task.{Tuple}
use Rattle.wf_tree_model.specs.Covers.{Covering}
use Rattle.wf_tree_model.specs.Trees.{move_by}
use Rattle.wf_tree_model.specs.Tuples.{value_at}
use Rattle.wf_tree_steps.specs.declared.cover.cover.Covering as code_cover
use Rattle.wf_tree_steps.specs.declared.cover.cover.Move as code
use Rattle.wf_tree_steps.specs.Cover.Faults.{moves_seen}

abbrev pub turn_key : ℕ → ℕ → ℕ → ℕ → ℕ
turn_key first value second other = ((first * 256 + value) * 256 + second) * 256 + other

-- the number of the first move under a key, numbered from here on, and whether it goes back
abbrev pub turn_in : ℕ → List code.Move → ℕ → Option (ℕ × Bool)
turn_in number [] key = None
turn_in number (m ∷ moves) key =
    if turn_key m.first m.value m.second m.other == key then Some (number, false)
    else if turn_key m.second m.other m.first m.value == key then Some (number, true) else turn_in (suc number) moves key

pub record HasBytes (m : code.Move) : Type 0 where
  pub first : m.first ≤ 255
  pub value : m.value ≤ 255
  pub second : m.second ≤ 255
  pub other : m.other ≤ 255

-- a table has all moves
pub record AreTurns (moves : List code.Move) (turns : ℕ → Option (ℕ × Bool)) : Type 0 where
  pub same : (key : ℕ) → turns key ≡ turn_in 0 moves key
  pub small : AllByRecursion HasBytes moves

-- ---- going round

-- from a place of a tuple to another
abbrev pub moved_by : List code.Move → Tuple → ℕ → ℕ → ℕ → ℕ
moved_by moves tuple i j sheet = if i == j then sheet else move_by (moves_seen moves) i (value_at tuple i) j (value_at tuple j) sheet

abbrev pub is_flat_by : List code.Move → ℕ → Tuple → ℕ → ℕ → ℕ → ℕ → Bool
is_flat_by moves sheets tuple i j k sheet =
    nat_lt (moved_by moves tuple i j sheet) sheets
    && (moved_by moves tuple j k (moved_by moves tuple i j sheet) == moved_by moves tuple i k sheet)

abbrev pub is_flat_round : List code.Move → ℕ → Tuple → ℕ → ℕ → ℕ → Bool
is_flat_round moves sheets tuple i j k = list_all (is_flat_by moves sheets tuple i j k) (below sheets)

abbrev pub is_flat_between : List code.Move → ℕ → Tuple → ℕ → ℕ → Bool
is_flat_between moves sheets tuple i j = list_all (is_flat_round moves sheets tuple i j) (below (length tuple))

abbrev pub is_flat_from : List code.Move → ℕ → Tuple → ℕ → Bool
is_flat_from moves sheets tuple i = list_all (is_flat_between moves sheets tuple i) (below (length tuple))

abbrev pub is_flat_tuple : List code.Move → ℕ → Tuple → Bool
is_flat_tuple moves sheets tuple = list_all (is_flat_from moves sheets tuple) (below (length tuple))

-- the covering has these moves and sheets, and its places are those of the tuples
pub record IsGoing (c : Covering) (cover : code_cover.Covering) (tuples : List Tuple) : Type 0 where
  pub move : c.move ≡ move_by (moves_seen cover.moves.items)
  pub sheets : c.sheets ≡ cover.sheets
  pub long : AllByRecursion (λ tuple. length tuple ≡ length c.rule.input) tuples
