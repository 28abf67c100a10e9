-- The table of the board shows a state of the pool, each call's step is one event of the pool, and
-- what `finish` answers is the account of the state that is shown.
use Rattle.std.specs.Prelude.{◌≡◌, ℕ, ◌+◌, ◌%◌, ◌^◌, ◌<◌, ◌≤◌, min, List, [], ◌∷◌, length, map, replicate, slice_index}
use Rattle.std.specs.List.Sorted.{IsPermutation}
use mathlib.Core.Option.{some}
use lib.ListN.{get_elem?}
use Rattle.atomic_table.specs.Table.{State, stepped, keeps}
use Rattle.wf_core.specs.declared.event.Status.{Status}
use Rattle.wf_core.specs.declared.event.Status.TheVariants as status
use Rattle.wf_core.specs.declared.event.Event.{Event}
use Rattle.wf_core.specs.declared.event.Event.TheVariants.{Take, Look, Post, Searched, Cut, End}
use Rattle.wf_core.specs.declared.event.Account.{Account}
use Rattle.wf_core.specs.Account.{account_of}
use Rattle.wf_core.specs.Core.{State as Core, Is, Saw, IsActive, Step, start}
use Rattle.wf_core.specs.Count.{times_in}
use Rattle.wf_board.specs.declared.table.SeatView.{SeatView}
use Rattle.wf_board.specs.declared.table.Ledger.{Ledger}
use Rattle.wf_board.specs.Desk.{BoardId, Desk, fresh_desk, known, looked, posted, searched, is_cut, IsLeast, all_posted, all_cut, count_searched}
use Rattle.wf_board.specs.Rule.{Stands, Shown}

abbrev pub Table : Type 0
Table = State (Unit {0}) SeatView

-- the branches in these lists are those of this status, each once
pub record Agree (f : SeatView → List ℕ) (views : List SeatView) (c : Core) (status : Status) : Type 0 where
  pub listed : (i : ℕ) → Stands f views i → Is c i status
  pub stands : (i : ℕ) → Is c i status → Stands f views i
  pub once : (i : ℕ) → times_in f i views ≤ 1

-- The least word is the least number, the seat of a worker's number has seen what the worker has,
-- and the lists hold the branches that were settled, each once
pub record Shows (s : Table) (c : Core) : Type 0 where
  pub least : slice_index s.words 0 ≡ c.least
  pub seen : (w : ℕ) (v : SeatView) → get_elem? s.views w ≡ some v → (n : ℕ) × (v.seen ≡ n ∷ []) × Saw c w n
  pub posted : Agree (λ v. v.posted) s.views c status.Posted
  pub refuted : Agree (λ v. v.refuted) s.views c status.Refuted
  pub cut : Agree (λ v. v.cut) s.views c status.Cut

-- the event is a step of the pool, and the table shows the state that it leaves
abbrev pub IsEvent : Core → Event → Table → Type 0
IsEvent c e t = (d : Core) × Step c e d × Shows t d

-- word i becomes n, and the seat w knows what the desk says
abbrev pub moved : Table → ℕ → ℕ → ℕ → Desk → Table
moved s i n w d = stepped s i n w [] (known d) keeps

-- A seat of an active worker, in a table that the rule allows and that shows the pool's state c
pub record IsSeat (ledger : Ledger) (s : Table) (c : Core) (w : ℕ) (d : Desk) : Type 0 where
  pub rule : Shown ledger s
  pub shows : Shows s c
  pub active : IsActive c w
  pub knows : get_elem? s.views w ≡ some (known d)

abbrev pub LookIsEvent : Type 0
LookIsEvent = (ledger : Ledger) (s : Table) (c : Core) (w : ℕ) (d : Desk) → IsSeat ledger s c w d
    → let least = slice_index s.words 0 in IsEvent c (Look w) (moved s 0 least w (looked d least))

-- in the calls that settle a branch, the worker holds it

abbrev pub PostIsEvent : Type 0
PostIsEvent = (ledger : Ledger) (s : Table) (c : Core) (w : ℕ) (d : Desk) (i : ℕ) → IsSeat ledger s c w d → Is c i (status.Held w)
    → let least = min (slice_index s.words 0) i in IsEvent c (Post w i) (moved s 0 least w (posted d i least))

abbrev pub SearchedIsEvent : Type 0
SearchedIsEvent = (ledger : Ledger) (s : Table) (c : Core) (w : ℕ) (d : Desk) (i : ℕ) → IsSeat ledger s c w d → Is c i (status.Held w)
    → IsEvent c (Searched w i) (moved s 1 ((slice_index s.words 1 + 1) % 2 ^ 64) w (searched d i))

abbrev pub CutIsEvent : Type 0
CutIsEvent =
    (ledger : Ledger) (s : Table) (c : Core) (w : ℕ) (d : Desk) (i : ℕ) → IsSeat ledger s c w d → Is c i (status.Held w) → d.seen < i
    → IsEvent c (Cut w i) (moved s 2 ((slice_index s.words 2 + 1) % 2 ^ 64) w (is_cut d i))

-- a table of fresh seats, one for each worker, shows the opening state
abbrev pub StartIsShown : Type 0
StartIsShown = (s : Table) (p : BoardId) → s.words ≡ p.branches ∷ 0 ∷ 0 ∷ [] → s.views ≡ replicate p.workers (known (fresh_desk p))
    → Shows s (start p.branches p.workers)

-- to take a branch and to end are no calls: the table shows the state after them as it is

abbrev pub TakeIsShown : Type 0
TakeIsShown = (s : Table) (c d : Core) (w i : ℕ) → Shows s c → Step c (Take w i) d → Shows s d

abbrev pub EndIsShown : Type 0
EndIsShown = (s : Table) (c d : Core) (w : ℕ) → Shows s c → Step c (End w) d → Shows s d

abbrev pub ledger_of : BoardId → Ledger
ledger_of p = record { branches = p.branches; workers = p.workers }

-- These are all seats, in any order, of a table that the rule allows and that shows the state c of
-- a pool with as many branches as the board
pub record AreSeatsAt (p : BoardId) (s : Table) (c : Core) (ds : List Desk) : Type 0 where
  pub rule : Shown (ledger_of p) s
  pub shows : Shows s c
  pub branches : length c.branches ≡ p.branches
  pub seats : IsPermutation (map known ds) s.views

-- what `finish` answers by its clauses, from these seats, is the state's account
abbrev pub FinishAnswersTheAccount : Type 0
FinishAnswersTheAccount = (p : BoardId) (s : Table) (c : Core) (ds : List Desk) (a : Account)
    → AreSeatsAt p s c ds
    → a.branches ≡ p.branches
    → IsLeast p.branches (all_posted ds) a.least
    → a.searched ≡ count_searched ds
    → a.cut ≡ length (all_cut ds)
    → a ≡ account_of c
