-- A turn of a search, over all boxes that are still to be searched.
use Rattle.std.specs.Prelude.{◌≡◌, List, [], None, Some}
use Rattle.std.specs.List.{AllByRecursion}
use Rattle.wf_model.specs.Problem.{Problem}
use Rattle.wf_model.specs.Box.{Box}
use Rattle.wf_model.specs.Refutation as refutation
use Rattle.wf_model.specs.Closing.{Trace, before, canonical, in_turn}
use Rattle.wf_model.specs.Laws.{IsBoxOf}
use Rattle.wf_base.specs.declared.lines.line.Line.{Line}
use Rattle.wf_search.specs.declared.turning.TurnEnd.{TurnEnd}
use Rattle.wf_search.specs.declared.turning.TurnEnd.TheVariants.{GoesOn, Map, Nothing}
use Rattle.wf_search.specs.Found.{turns}
use Rattle.wf_search.specs.Outline.{Adds}

abbrev pub AreBoxesOf : Problem → List Box → Type 0
AreBoxesOf p boxes = AllByRecursion (IsBoxOf p) boxes

-- what a search still finds after a turn that left these boxes
abbrev pub left_to_find : Problem → List Box → TurnEnd → Trace
left_to_find p boxes GoesOn = in_turn (canonical p) boxes
left_to_find p boxes Nothing = record { lines = []; map = None }
left_to_find p boxes (Map values) = record { lines = []; map = Some values.items }

-- a search that goes on does so in boxes of the problem
abbrev pub LeavesBoxes : Problem → List Box → TurnEnd → Type 0
LeavesBoxes p boxes GoesOn = AreBoxesOf p boxes
LeavesBoxes p boxes Nothing = Unit {0}
LeavesBoxes p boxes (Map values) = Unit {0}

-- of a search of these boxes: one turn, which added lines; what is found is they, and what is left
-- to find
pub record IsTurn (p : Problem) (boxes more : List Box) (old new : List Line) (turn : TurnEnd) : Type 0 where
  pub added : List refutation.Line
  pub lines : Adds old new added
  pub one : turns added ≡ 1
  pub found : in_turn (canonical p) boxes ≡ before added None (left_to_find p more turn)
  pub boxes_left : LeavesBoxes p more turn
