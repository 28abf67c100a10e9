-- The pool as a machine: its states, its events, and which state an event leaves.
--
-- B branches are numbered from 0, and so are the workers. A worker takes a free branch, and then
-- settles it: it posts the branch where it found a map, or finds that it has none, or gives it up
-- because it has seen that a lower branch has a map. The least posted number is shared; a worker
-- knows it as of its last look or post.
use Rattle.std.specs.Prelude.{◌≡◌, ℕ, ◌<◌, Bool, true, false, not, List, [], ◌∷◌, length, min, replicate, take, slice_get, slice_set, nat_lt, nat_eq, Option, Some, None}
use Rattle.std.specs.List.{list_any}
use Rattle.std.specs.Option.{option_map_or}
use Rattle.wf_core.specs.declared.event.Status.{Status}
use Rattle.wf_core.specs.declared.event.Status.TheVariants as status
use Rattle.wf_core.specs.declared.event.Event.{Event}
use Rattle.wf_core.specs.declared.event.Event.TheVariants.{Take, Look, Post, Searched, Cut, End}
use Rattle.wf_core.specs.declared.event.Illegal.{Illegal}
use Rattle.wf_core.specs.declared.event.CoreFault.{CoreFault}
use Rattle.wf_core.specs.declared.event.CoreFault.TheVariants.{Illegal as IllegalAt, OutOfMemory}
use Rattle.wf_core.specs.declared.event.Illegal.TheVariants.{NoWorker, NoBranch, Ended, Busy, NotFree, NotHeld, NotBelow}

-- The status of each branch, the least posted number (or the number of branches, where none is
-- posted), and for each worker the number that it has seen and whether it has ended
pub record State : Type 0 where
  pub branches : List Status
  pub least : ℕ
  pub seen : List ℕ
  pub ended : List Bool

-- the opening state: all branches are free, and no worker has seen a posted number
abbrev pub start : ℕ → ℕ → State
start branches workers =
    record { branches = replicate branches status.Free; least = branches; seen = replicate workers branches; ended = replicate workers false }

-- the state is one of so many branches and workers
abbrev pub HasSizes : ℕ → ℕ → State → Type 0
HasSizes branches workers s = (length s.branches ≡ branches) × (length s.seen ≡ workers)

-- branch i has this status
abbrev pub Is : State → ℕ → Status → Type 0
Is s i status = slice_get s.branches i ≡ Some status

-- worker w has seen the number n
abbrev pub Saw : State → ℕ → ℕ → Type 0
Saw s w n = slice_get s.seen w ≡ Some n

-- w is a worker, and has not ended
abbrev pub IsActive : State → ℕ → Type 0
IsActive s w = slice_get s.ended w ≡ Some false

abbrev pub HoldsNothing : State → ℕ → Type 0
HoldsNothing s w = (i : ℕ) → ¬ (Is s i (status.Held w))

-- what an event needs
abbrev pub Needs : State → Event → Type 0
Needs s (Take w i) = IsActive s w × HoldsNothing s w × Is s i status.Free
Needs s (Look w) = IsActive s w
Needs s (Post w i) = IsActive s w × Is s i (status.Held w)
Needs s (Searched w i) = IsActive s w × Is s i (status.Held w)
Needs s (Cut w i) = IsActive s w × Is s i (status.Held w) × ((n : ℕ) × Saw s w n × (n < i))
Needs s (End w) = IsActive s w × HoldsNothing s w

-- what an event does
abbrev pub after : State → Event → State
after s (Take w i) = record s { branches = slice_set s.branches i (status.Held w) }
after s (Look w) = record s { seen = slice_set s.seen w s.least }
after s (Post w i) =
    record s { branches = slice_set s.branches i status.Posted; least = min s.least i; seen = slice_set s.seen w (min s.least i) }
after s (Searched w i) = record s { branches = slice_set s.branches i status.Refuted }
after s (Cut w i) = record s { branches = slice_set s.branches i status.Cut }
after s (End w) = record s { ended = slice_set s.ended w true }

-- one step: the event has what it needs, and does what it does
abbrev pub Step : State → Event → State → Type 0
Step s e t = Needs s e × (t ≡ after s e)

-- Why an event is refused: tests, each with the reason that it gives where it
-- fails. The first that fails counts.

abbrev pub has_worker : State → ℕ → Bool
has_worker s w = nat_lt w (length s.ended)

abbrev pub has_branch : State → ℕ → Bool
has_branch s i = nat_lt i (length s.branches)

abbrev pub is_active : State → ℕ → Bool
is_active s w = option_map_or not (slice_get s.ended w) false

abbrev pub is_held_by : ℕ → Status → Bool
is_held_by w status.Free = false
is_held_by w (status.Held v) = nat_eq v w
is_held_by w status.Refuted = false
is_held_by w status.Posted = false
is_held_by w status.Cut = false

abbrev pub is_taken : Status → Bool
is_taken status.Free = false
is_taken (status.Held _) = true
is_taken status.Refuted = true
is_taken status.Posted = true
is_taken status.Cut = true

abbrev pub is_idle : State → ℕ → Bool
is_idle s w = not (list_any (is_held_by w) s.branches)

abbrev pub is_free : State → ℕ → Bool
is_free s i = option_map_or (λ status. not (is_taken status)) (slice_get s.branches i) false

abbrev pub holds : State → ℕ → ℕ → Bool
holds s w i = option_map_or (is_held_by w) (slice_get s.branches i) false

abbrev pub has_seen_below : State → ℕ → ℕ → Bool
has_seen_below s w i = option_map_or (λ n. nat_lt n i) (slice_get s.seen w) false

abbrev pub first_failing : List (Bool × Illegal) → Option Illegal
first_failing [] = None
first_failing ((true, why) ∷ rest) = first_failing rest
first_failing ((false, why) ∷ rest) = Some why

-- why worker w can do nothing with branch i, whatever it holds
abbrev pub out_of_reach : State → ℕ → ℕ → Option Illegal
out_of_reach s w i = first_failing ((has_worker s w, NoWorker) ∷ (has_branch s i, NoBranch) ∷ (is_active s w, Ended) ∷ [])

-- what is asked of an event, in order
abbrev pub tests : State → Event → List (Bool × Illegal)
tests s (Take w i) =
    (has_worker s w, NoWorker) ∷ (has_branch s i, NoBranch) ∷ (is_active s w, Ended) ∷ (is_idle s w, Busy) ∷ (is_free s i, NotFree) ∷ []
tests s (Look w) = (has_worker s w, NoWorker) ∷ (is_active s w, Ended) ∷ []
tests s (Post w i) = (has_worker s w, NoWorker) ∷ (has_branch s i, NoBranch) ∷ (is_active s w, Ended) ∷ (holds s w i, NotHeld) ∷ []
tests s (Searched w i) = (has_worker s w, NoWorker) ∷ (has_branch s i, NoBranch) ∷ (is_active s w, Ended) ∷ (holds s w i, NotHeld) ∷ []
tests s (Cut w i) =
    (has_worker s w, NoWorker) ∷ (has_branch s i, NoBranch) ∷ (is_active s w, Ended) ∷ (holds s w i, NotHeld)
    ∷ (has_seen_below s w i, NotBelow) ∷ []
tests s (End w) = (has_worker s w, NoWorker) ∷ (is_active s w, Ended) ∷ (is_idle s w, Busy) ∷ []

abbrev pub refusal : State → Event → Option Illegal
refusal s e = first_failing (tests s e)

-- the steps of a list of events, one after the other
abbrev pub Run : State → List Event → State → Type 0
Run s [] t = t ≡ s
Run s (e ∷ es) t = (m : State) × Step s e m × Run m es t

-- The event at this place of the list is refused for this reason, and those
-- before it were steps from the state s
abbrev pub IsFirstIllegal : State → List Event → ℕ → Illegal → Type 0
IsFirstIllegal s events at why =
    (at < length events) × ((t : State) × (e : Event) × Run s (take at events) t × (slice_get events at ≡ Some e) × (refusal t e ≡ Some why))

-- what a fault says of a list of events
abbrev pub Explains : State → List Event → CoreFault → Type 0
Explains s events (IllegalAt at why) = IsFirstIllegal s events at why
Explains s events OutOfMemory = Unit {0}
