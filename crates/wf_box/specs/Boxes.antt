-- What a clause sees of the program's boxes: the candidates of each point, the changes that made
-- them so, and what is known.
use Rattle.std.specs.Prelude.{◌≡◌, ◌≤◌, ℕ, List, [], ◌∷◌, ◌++◌, Option, Some, None, length, drop, map, IfSome, if◌then◌else◌, Bool}
use Rattle.std.specs.List.{slice_set}
use Rattle.wf_model.specs.Problem.{Problem}
use Rattle.wf_model.specs.Box.{Box, first_empty}
use Rattle.wf_model.specs.Closing.{sweep}
use Rattle.wf_model.specs.Laws.{IsBoxOf}
use Rattle.wf_base.specs.Set.Sets.{box_of, values_in}
use Rattle.wf_box.specs.Changes.{KeepsTrack}
use Rattle.wf_box.specs.Kept.{box_kept}
use Rattle.wf_network.specs.Revising.{AreKnown, answers_in}
use Rattle.wf_model.specs.Limits.{most_points}
use Rattle.wf_network.specs.declared.memo.CacheEntry.{CacheEntry}
use Rattle.wf_box.specs.declared.tracked.Change.{Change}
use Rattle.wf_box.specs.declared.boxed.Box0.TheInside.{Inside}
use Rattle.wf_box.specs.declared.snapshot.Snapshot.TheInside as snapshot
use Rattle.wf_box.specs.declared.closing.Closed.{Closed}
use Rattle.wf_box.specs.declared.closing.Closed.TheVariants.{Empty, Open}

-- a change: the point, and the candidates that it had before
pub record Was : Type 0 where
  pub point : ℕ
  pub set : List ℕ

-- the candidates of each point, the changes since the box was made, after how many of them it was
-- closed last, and the kernel's answers that it keeps
pub record Tracked : Type 0 where
  pub sets : Box
  pub trail : List Was
  pub closed : Option ℕ
  pub known : List (Option CacheEntry)

-- ---- taking back

-- these changes taken back, the last first
abbrev pub put_back : List Was → Box → Box
put_back [] box = box
put_back (w ∷ ws) box = slice_set (put_back ws box) w.point w.set

-- the box as it was after so many changes
abbrev pub box_after : ℕ → Tracked → Box
box_after n b = put_back (drop n b.trail) b.sets

-- there are further changes, and without them the box is the old one
pub record Grows (old new : Tracked) : Type 0 where
  pub added : List Was
  pub trail_is : new.trail ≡ old.trail ++ added
  pub sets_are : put_back added new.sets ≡ old.sets

-- ---- of a problem

-- after so many changes the box was closed and no point was without a candidate
pub record WasClosed (p : Problem) (b : Tracked) (n : ℕ) : Type 0 where
  pub within : n ≤ length b.trail
  pub filled : first_empty (box_after n b) ≡ None
  pub closed : (sweep p (box_after n b)).lines ≡ []

-- a box of the problem, which was closed when it says so, and keeps right answers alone
pub record IsFor (p : Problem) (b : Tracked) : Type 0 where
  pub is_box : IsBoxOf p b.sets
  pub closed : IfSome b.closed (WasClosed p b)
  pub known : AreKnown p.constraints b.known

-- the answers are right for the problem
abbrev pub ServeFor : Problem → List (Option CacheEntry) → Type 0
ServeFor p answers = AreKnown p.constraints answers

-- the box with other answers
abbrev pub with_known : Tracked → List (Option CacheEntry) → Tracked
with_known b known = record { sets = b.sets; trail = b.trail; closed = b.closed; known = known }

-- so many changes if the test holds
abbrev pub closed_if : Bool → ℕ → Option ℕ
closed_if is_closed n = if is_closed then Some n else None

-- a box that stays open was closed after all its changes
abbrev pub IsClosedNow : Tracked → Closed → Type 0
IsClosedNow b (Empty v) = b.closed ≡ None
IsClosedNow b (Open n) = b.closed ≡ Some (length b.trail)

-- ---- as the code keeps them

abbrev pub change_seen : Change → Was
change_seen c = record { point = c.point; set = values_in c.before }

abbrev pub box_seen : Inside → Tracked
box_seen b = record { sets = box_of b.workspace.tracked.words.items; trail = map change_seen b.workspace.tracked.trail.items; closed = b.closed; known = answers_in b.workspace.memo }

pub record IsKeptBox (b : Inside) : Type 0 where
  pub tracked : KeepsTrack b.workspace.tracked
  pub closed : IfSome b.closed (λ n. n ≤ length b.workspace.tracked.trail.items)

-- a box without a change to take back, which keeps no answer
abbrev pub snapshot_seen : snapshot.Inside → Tracked
snapshot_seen s = record { sets = box_kept s.sets; trail = []; closed = closed_if s.is_closed 0; known = [] }

abbrev pub IsKeptSnapshot : snapshot.Inside → Type 0
IsKeptSnapshot s = length (box_kept s.sets) ≤ most_points
