-- A cover as the code has it, with what it puts on sheets.
use Rattle.std.specs.Prelude.{◌≡◌, ◌<◌, ◌≤◌, ◌+◌, ◌*◌, ℕ, true, List, [], ◌∷◌, All, length, map, if◌then◌else◌}
use Rattle.std.specs.BTreeMap.{get}
use Rattle.std.specs.List.{AllByRecursion}
use Rattle.std.specs.Ordering.{nat_cmp}
use Rattle.wf_model.specs.Lists.{below, has}
use Rattle.wf_model.specs.Simplex.{Simplex, processes_of}
use Rattle.wf_model.specs.Task.{Tuple}
use Rattle.wf_tree_model.specs.Covers.{Covering, corner_vertex, is_flat}
use Rattle.wf_tree_model.specs.Trees.{move_by}
use Rattle.wf_tree_refine.specs.Choices.{AreChoices}
use Rattle.wf_tree_refine.specs.Names.{first_new}
use Rattle.wf_tree_refine.specs.SplitSeen.{rule_of}
use Rattle.wf_tree_steps.specs.declared.cover.cover.Covering as code_cover
use Rattle.wf_tree_steps.specs.declared.cover.rows.Lift.{Lift}
use Rattle.wf_tree_steps.specs.Cover.Faults.{moves_seen}
use Rattle.wf_tree_steps.specs.Cover.Turns.{AreTurns}

-- the cover of a simplex with these tuples, where each sheet has so many names
abbrev pub sheeted : code_cover.Covering → Simplex → List Tuple → ℕ → Covering
sheeted cover simplex rows new =
    record { rule = rule_of simplex rows; corner = cover.corner; sheets = cover.sheets; move = move_by (moves_seen cover.moves.items); name = λ value sheet. value + sheet * new }

abbrev pub lift_seen : Lift → Covering
lift_seen lift = sheeted lift.round.cover.now lift.simplex lift.rows.now lift.new

-- what processes decide in place of a value, those of the simplex on any of the sheets
abbrev pub on_sheets : Simplex → ℕ → ℕ → ℕ → ℕ → List ℕ
on_sheets simplex sheets new process value =
    if has (processes_of simplex) process then map (λ sheet. value + sheet * new) (below sheets) else value ∷ []

-- the cover is flat, all names fit a byte, and a table has the names of each value
pub record IsLift (lift : Lift) : Type 0 where
  pub long : All (λ row. length row ≡ length lift.simplex) lift.rows.now
  pub small : AllByRecursion (AllByRecursion (λ value. value < lift.new)) lift.rows.now
  pub inside : lift.round.cover.now.corner < length lift.simplex
  pub flat : is_flat (lift_seen lift) ≡ true
  pub names : lift.round.cover.now.sheets * lift.new ≤ first_new
  pub turns : AreTurns lift.round.cover.now.moves.items (get nat_cmp lift.round.turns)
  pub corner : lift.corner ≡ corner_vertex (lift_seen lift) ∷ []
  pub sets : AreChoices (on_sheets lift.simplex lift.round.cover.now.sheets lift.new) lift.new lift.sets.items
