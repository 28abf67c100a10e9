-- What closing works on, and what each part of it keeps.
use Rattle.std.specs.Prelude.{◌≡◌, ◌<◌, ◌≤◌, ◌*◌, ℕ, Bool, List, [], Vec, length, Option, Some, None, IfNone}
use Rattle.wf_model.specs.Problem.{Constraint, Problem}
use Rattle.wf_model.specs.Closing.{lost}
use Rattle.wf_base.specs.declared.lines.line.Line.{Line}
use Rattle.wf_box.specs.Changes.{GrowsTo, KeepsTrack, sets_in}
use Rattle.wf_box.specs.Closes.{EndsAt}
use Rattle.wf_network.specs.Marks.{bit_of}
use Rattle.wf_network.specs.Problems.{IsNetwork, constraint_in, constraints_in, executions_in}
use Rattle.wf_box.specs.Quiet.{IsUntouched, IsUntouchedBut, MarksTell}
use Rattle.wf_network.specs.Users.{IsUser}
use Rattle.wf_network.specs.Revising.{AreKnown, answers_in}
use Rattle.wf_box.specs.Steps.{HasRoom, IsPaid, NamesAt, NamesIn, Reaches, TakesEach, point_if, revision}
use Rattle.wf_box.specs.declared.taking.Occurrence.{Occurrence}
use Rattle.wf_network.specs.declared.problem.Network.{Network}
use Rattle.wf_box.specs.declared.tracked.Tracked.{Tracked}
use Rattle.wf_box.specs.declared.workspace.Workspace.{Workspace}

-- candidates of so many points and marks for so many executions, room for each change and each line
-- that can come, and right answers alone
pub record IsWorking {A : Type 0} (points executions : ℕ) (ks : List Constraint) (lines : Vec Line A) (w : Workspace) : Type 0 where
  pub kept : KeepsTrack w.tracked
  pub long : length w.tracked.words.items ≡ points
  pub marks_long : executions ≤ 64 * length w.marks.words.items
  pub room : HasRoom lines w.tracked.words.items
  pub known : AreKnown ks (answers_in w.memo)

abbrev pub IsWorkingOn : {A : Type 0} → Network → Vec Line A → Workspace → Type 0
IsWorkingOn n lines w = IsWorking n.points (length (executions_in n)) (constraints_in n) lines w

abbrev pub IsWorkingFor : {A : Type 0} → Problem → Vec Line A → Workspace → Type 0
IsWorkingFor p lines w = IsWorking p.points (length p.constraints) p.constraints lines w

-- a point that was emptied ends it; where none was, there is room for what can come, and each new
-- line has a candidate less beside it
abbrev pub Ends : {A : Type 0} → Vec Line A → Tracked → Vec Line A → Tracked → Option ℕ → Type 0
Ends lines old more new None = HasRoom more new.words.items × IsPaid lines old more new
Ends lines old more new (Some v) = EndsAt more.items (sets_in new) v

-- candidates were taken out, with lines; this point was emptied, if one was
pub record Proceeds {A : Type 0} (points executions : ℕ) (ks : List Constraint) (lines : Vec Line A) (old : Tracked) (more : Vec Line A) (new : Workspace) (emptied : Option ℕ) : Type 0 where
  pub kept : KeepsTrack new.tracked
  pub long : length new.tracked.words.items ≡ points
  pub marks_long : executions ≤ 64 * length new.marks.words.items
  pub grown : GrowsTo old new.tracked
  pub ends : Ends lines old more new.tracked emptied
  pub known : AreKnown ks (answers_in new.memo)

abbrev pub ProceedsOn : {A : Type 0} → Network → Vec Line A → Workspace → Vec Line A → Workspace → Option ℕ → Type 0
ProceedsOn n lines old more new emptied = Proceeds n.points (length (executions_in n)) (constraints_in n) lines old.tracked more new emptied

abbrev pub ProceedsFor : {A : Type 0} → Problem → Vec Line A → Workspace → Vec Line A → Workspace → Option ℕ → Type 0
ProceedsFor p lines old more new emptied = Proceeds p.points (length p.constraints) p.constraints lines old.tracked more new emptied

-- ---- marks

-- each execution that has lost something is marked
abbrev pub AreMarked : List Constraint → Workspace → Type 0
AreMarked ks w = MarksTell ks w.marks w.tracked

-- an execution without a mark had none before, and its points have the candidates that they had
abbrev pub LeavesUntouched : Network → Workspace → Workspace → Type 0
LeavesUntouched n old new = IsUntouched n.users old.tracked.words.items old.marks.words.items new.tracked.words.items new.marks.words.items

-- an execution without a mark, if it is not this one, had none before, and its points have the
-- candidates that they had
abbrev pub LeavesOthersUntouched : Network → ℕ → Workspace → Workspace → Type 0
LeavesOthersUntouched n number old new =
    IsUntouchedBut number n.users old.tracked.words.items old.marks.words.items new.tracked.words.items new.marks.words.items

-- an execution without a mark has lost nothing
abbrev pub IsQuietAt : Network → ℕ → Workspace → Type 0
IsQuietAt n e w = bit_of w.marks.words.items e ≡ 0 → lost (sets_in w.tracked) (constraint_in n e) ≡ []

-- no candidate was taken out, if this execution has no mark
abbrev pub IsSilent : ℕ → Workspace → Workspace → Type 0
IsSilent e old new = bit_of new.marks.words.items e ≡ 0 → new.tracked.words.items ≡ old.tracked.words.items

-- no candidate was taken out, if some execution of the point has no mark
abbrev pub AreSilent : Network → ℕ → Workspace → Workspace → Type 0
AreSilent n v old new = (e : ℕ) → IsUser n.users v e → IsSilent e old new

-- ---- an execution, and a place of it

-- it is an execution of the network, whose points closing works on
pub record IsRevising {A : Type 0} (n : Network) (e : ℕ) (lines : Vec Line A) (w : Workspace) : Type 0 where
  pub network : IsNetwork n
  pub number : e < length (executions_in n)
  pub working : IsWorkingOn n lines w

-- what the execution has lost is taken out, up to this point, if it empties one
pub record Revises {A : Type 0} (n : Network) (e : ℕ) (lines : Vec Line A) (old : Workspace) (more : Vec Line A) (new : Workspace) (emptied : Option ℕ) : Type 0 where
  pub step : Reaches (revision e (constraint_in n e)) lines old more new emptied
  pub proceeds : ProceedsOn n lines old more new emptied
  pub untouched : LeavesOthersUntouched n e old new
  pub quiet : IfNone emptied (IsQuietAt n e new)
  pub named : NamesIn n e lines old more new

-- the place's point is one of the network's, which closing works on
pub record IsTakingAt {A : Type 0} (n : Network) (place : Occurrence) (lines : Vec Line A) (w : Workspace) : Type 0 where
  pub network : IsNetwork n
  pub point : place.point < n.points
  pub working : IsWorkingOn n lines w

-- those of the values that the place's point still has are taken out; whether that empties it
pub record TakesAt {A : Type 0} (n : Network) (set : List ℕ) (place : Occurrence) (lines : Vec Line A) (old : Workspace) (more : Vec Line A) (new : Workspace) (emptied : Bool) : Type 0 where
  pub step : TakesEach set place lines old.tracked.words.items more new.tracked.words.items emptied
  pub proceeds : ProceedsOn n lines old more new (point_if emptied place.point)
  pub untouched : LeavesUntouched n old new
  pub silent : AreSilent n place.point old new
  pub named : NamesAt place lines old.tracked.words.items more new.tracked.words.items
