-- The boxes that are still to be searched.
use Rattle.std.specs.Prelude.{◌≡◌, ◌<◌, ◌≤◌, ℕ, true, List, [], ◌∷◌, ◌++◌, map, length}
use Rattle.std.specs.Bool.{OnTrue}
use Rattle.std.specs.List.{AllByRecursion}
use Rattle.wf_model.specs.Lists.{has}
use Rattle.wf_model.specs.Problem.{Problem}
use Rattle.wf_model.specs.Box.{Box, branches_at, candidates, decided}
use Rattle.wf_model.specs.Closing.{Step, closing}
use Rattle.wf_base.specs.Set.Sets.{values_in}
use Rattle.wf_box.specs.Boxes.{IsFor, Tracked, WasClosed, box_after}
use Rattle.wf_search.specs.declared.pending.Frame.{Frame}
use Rattle.wf_search.specs.declared.pending.SearchStack.TheInside.{Inside}

-- boxes, and whose they are
pub record Boxes : Type 0 where
  pub problem : Problem
  pub boxes : List Box

-- the first box, and the others
abbrev pub first : List Box → Box
first [] = []
first (box ∷ boxes) = box

abbrev pub others : List Box → List Box
others [] = []
others (box ∷ boxes) = boxes

abbrev pub HasFirst : List Box → Type 0
HasFirst boxes = boxes ≡ first boxes ∷ others boxes

-- the closing of the first box, and the boxes with its branches at a point in its place
abbrev pub closed_first : Boxes → Step
closed_first b = closing b.problem (first b.boxes)

abbrev pub first_branched : List Box → ℕ → List Box
first_branched boxes v = branches_at (first boxes) v ++ others boxes

-- the branches that are left of a point at which the box branched: one for each value that is left
abbrev pub branches_left : Tracked → Frame → List Box
branches_left b f = map (decided (box_after f.mark.changes b) f.point) (values_in f.left)

-- of some points at which it branched, the last one's come first
abbrev pub all_left : Tracked → List Frame → List Box
all_left b [] = []
all_left b (f ∷ fs) = all_left b fs ++ branches_left b f

abbrev pub pending_seen : Inside → Boxes
pending_seen p = record { problem = p.problem.now; boxes = p.current.sets ∷ all_left p.current p.frames.items }

-- the box can be given the state that it had, some values are left, and they
-- were candidates of the point
pub record IsFrame (p : Problem) (b : Tracked) (f : Frame) : Type 0 where
  pub within : f.mark.changes ≤ length b.trail
  pub closed : OnTrue f.mark.is_closed (WasClosed p b f.mark.changes)
  pub some : 0 < length (values_in f.left)
  pub there : (a : ℕ) → has (values_in f.left) a ≡ true → has (candidates (box_after f.mark.changes b) f.point) a ≡ true

-- each state is an earlier one than those that come after it
abbrev pub AreEarlier : List Frame → Type 0
AreEarlier [] = Unit {0}
AreEarlier (f ∷ fs) = AllByRecursion (λ g. f.mark.changes ≤ g.mark.changes) fs × AreEarlier fs

pub record IsPending (p : Inside) : Type 0 where
  pub current : IsFor p.problem.now p.current
  pub frames : AllByRecursion (IsFrame p.problem.now p.current) p.frames.items
  pub earlier : AreEarlier p.frames.items
