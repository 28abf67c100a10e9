-- What a worker knows, and what it keeps of what it found.
use Rattle.std.specs.Prelude.{◌≡◌, ℕ, ◌+◌, ◌<◌, ◌≤◌, true, false, List, [], ◌∷◌, map, length, All, Option, IfSome, option_to_list, Vec, vec_capacity}
use Rattle.wf_model.specs.Problem.{Problem}
use Rattle.wf_model.specs.Box.{Box}
use Rattle.wf_model.specs.Outline.{Item, boxes_left_out}
use Rattle.wf_core.specs.Count.{times, times_in, once_below}
use Rattle.wf_board.specs.Desk.{BoardId, Desk, looked, settled}
use Rattle.wf_box.specs.Boxes.{ServeFor}
use Rattle.wf_search.specs.declared.searching.Found.{Found}
use Rattle.wf_search.specs.declared.searching.Found.TheVariants as found
use Rattle.wf_pool.specs.declared.answer.KeptLines.{KeptLines}
use Rattle.wf_pool.specs.declared.crew.CrewMembers.{CrewMembers}
use Rattle.wf_pool.specs.declared.worker.BranchMap.{BranchMap}
use Rattle.wf_pool.specs.declared.worker.BranchLines.{BranchLines}
use Rattle.wf_pool.specs.declared.worker.Finds.{Finds}
use Rattle.wf_pool.specs.declared.worker.Worker.{Worker}
use Rattle.wf_pool.specs.Branches.{has_map, IsCoverOf, IsMapAt, IsMapOf, AreLinesAt, AreLinesOf, LeadInBox}

-- the branches whose map, or whose lines, are kept
abbrev pub map_branches : Option BranchMap → List ℕ
map_branches m = map (λ k. k.branch) (option_to_list m)

abbrev pub lines_branches : {A : Type 0} → Vec BranchLines A → List ℕ
lines_branches ls = map (λ l. l.branch) ls.items

-- a map, if there is one, or lines, which are what a search of their branch finds
abbrev pub IsMapFound : Problem → KeptLines → Option BranchMap → Type 0
IsMapFound p kept m = IfSome m (λ k. IsMapAt p kept k.branch k.map.items k.lines.items)

abbrev pub AreLinesFound : {A : Type 0} → Problem → KeptLines → Vec BranchLines A → Type 0
AreLinesFound p kept ls = All (λ l. AreLinesAt p kept l.branch l.lines.items) ls.items

-- what is kept is what a search of the branch finds
pub record AreFinds (p : Problem) (kept : KeptLines) (f : Finds) : Type 0 where
  pub map : IsMapFound p kept f.map
  pub lines : AreLinesFound p kept f.lines

-- What a worker has settled is so, and what it found is kept as long as it may be asked for: the
-- map of a branch that it posted, unless it has seen a lower branch posted; what is kept of the
-- lines of a branch that it refuted, unless it has seen that branch or a lower one posted.
pub record IsHonest (p : Problem) (kept : KeptLines) (d : Desk) (f : Finds) : Type 0 where
  pub posted : All (λ i. has_map p i ≡ true) d.posted
  pub refuted : All (λ i. has_map p i ≡ false) d.refuted
  pub cut : All (λ i. d.seen < i) d.cut
  pub finds : AreFinds p kept f
  pub map_kept : (i : ℕ) → i ≤ d.seen → times i d.posted ≤ times i (map_branches f.map)
  pub lines_kept : (i : ℕ) → i < d.seen → times i d.refuted ≤ times i (lines_branches f.lines)

-- a seat of this board
abbrev pub IsSeat : BoardId → Desk → Type 0
IsSeat b d = (d.table ≡ b.table) × (d.branches ≡ b.branches)

-- the seat has looked at the board, and done nothing else
pub record HasLooked (d e : Desk) : Type 0 where
  pub same : e ≡ looked d e.seen
  pub down : e.seen ≤ d.seen

-- a worker of the board that tells the truth about the problem, and keeps
-- answers of the kernel that are right for it
abbrev pub IsWorker : Problem → KeptLines → BoardId → Worker → Type 0
IsWorker p kept b w = IsSeat b w.seat × IsHonest p kept w.seat w.finds × ServeFor p w.answers

-- a worker that has settled nothing
abbrev pub IsFresh : Problem → KeptLines → BoardId → Worker → Type 0
IsFresh p kept b w = IsWorker p kept b w × (settled w.seat ≡ [])

-- the worker has settled what its share has taken
abbrev pub IsDone : {S : Type 0} → (S → List ℕ) → Worker → S → Type 0
IsDone taken w s = (x : ℕ) → times x (settled w.seat) ≡ times x (taken s)

-- the share of this worker, which has taken nothing
abbrev pub IsUnused : {S : Type 0} → (ℕ → S → Type 0) → (S → List ℕ) → ℕ → S → Type 0
IsUnused fits taken k s = fits k s × (taken s ≡ [])

-- a list with room for one more element; and a list that was grown by one in the room that it had
abbrev pub HasRoom : {X A : Type 0} → Vec X A → Type 0
HasRoom v = length v.items < vec_capacity v

abbrev pub IsGrown : {X A : Type 0} → Vec X A → Vec X A → Type 0
IsGrown old new = (length new.items ≡ length old.items + 1) × (vec_capacity new ≡ vec_capacity old)

-- a list from whose end this was taken, and which kept its room
abbrev pub IsPopped : {X A : Type 0} → Option X → Vec X A → Vec X A → Type 0
IsPopped last old new = (length new.items + length (option_to_list last) ≡ length old.items) × (vec_capacity new ≡ vec_capacity old)

-- a list as long as another one, with the same room
abbrev pub IsAlike : {X A : Type 0} → Vec X A → Vec X A → Type 0
IsAlike old new = (length new.items ≡ length old.items) × (vec_capacity new ≡ vec_capacity old)

-- the lists of the workers of a crew and of their shares have room
abbrev pub HaveRoom : {S : Type 0} → CrewMembers S → Type 0
HaveRoom c = HasRoom c.workers × HasRoom c.shares

abbrev pub AreGrown : {S : Type 0} → CrewMembers S → CrewMembers S → Type 0
AreGrown old new = IsGrown old.workers new.workers × IsGrown old.shares new.shares

abbrev pub AreAlike : {S : Type 0} → CrewMembers S → CrewMembers S → Type 0
AreAlike old new = IsAlike old.workers new.workers × IsAlike old.shares new.shares

-- workers of the board, and what they have settled
abbrev pub AreWorkers : Problem → KeptLines → BoardId → List Worker → Type 0
AreWorkers p kept b ws = All (IsWorker p kept b) ws

abbrev pub times_settled : ℕ → List Worker → ℕ
times_settled x ws = times_in (λ w. settled w.seat) x ws

-- the workers have settled what the shares have taken
abbrev pub AreDone : {S : Type 0} → (S → List ℕ) → List Worker → List S → Type 0
AreDone taken ws ss = (x : ℕ) → times_settled x ws ≡ times_in taken x ss

-- the workers have settled every branch of the board; and so they have once these are settled too
abbrev pub AreAllSettled : BoardId → List Worker → Type 0
AreAllSettled b ws = (x : ℕ) → times_settled x ws ≡ once_below x b.branches

abbrev pub AreAllBut : BoardId → List ℕ → List Worker → Type 0
AreAllBut b left ws = (x : ℕ) → times_settled x ws + times x left ≡ once_below x b.branches

-- a branch of the board that the seat has not settled; and different such branches
abbrev pub IsToSettle : BoardId → Desk → ℕ → Type 0
IsToSettle b d i = (i < b.branches) × (times i (settled d) ≡ 0)

abbrev pub AreToSettle : BoardId → Desk → List ℕ → Type 0
AreToSettle b d left = (x : ℕ) → times x (settled d) + times x left ≤ once_below x b.branches

-- the worker has settled these branches, each once, and no other one since
abbrev pub HasSettledEach : List ℕ → Worker → Worker → Type 0
HasSettledEach left old new = (x : ℕ) → times x (settled new.seat) ≡ times x (settled old.seat) + times x left

abbrev pub HasSettled : ℕ → Worker → Worker → Type 0
HasSettled i old new = HasSettledEach (i ∷ []) old new

-- a worker that told the truth about a problem still does, whatever lines are kept; or it does if
-- this holds of the problem
abbrev pub StaysHonest : Worker → Worker → Type 0
StaysHonest old new = (p : Problem) (kept : KeptLines) → IsHonest p kept old.seat old.finds → IsHonest p kept new.seat new.finds

abbrev pub StaysHonestIf : (Problem → KeptLines → Type 0) → Worker → Worker → Type 0
StaysHonestIf P old new =
    (p : Problem) (kept : KeptLines) → IsHonest p kept old.seat old.finds → P p kept → IsHonest p kept new.seat new.finds

-- the branches of the problem are those that the board counts
pub record IsGround (p : Problem) (c : List Item) (b : BoardId) : Type 0 where
  pub cover : IsCoverOf p c
  pub count : length (boxes_left_out c) ≡ b.branches

-- what a search of a box found, with those of its lines that are kept
abbrev pub IsFoundIn : Problem → KeptLines → Box → Found → Type 0
IsFoundIn p kept box (found.Map m ls) = IsMapOf p box m.items × LeadInBox p kept box ls.items
IsFoundIn p kept box (found.Refuted ls) = AreLinesOf p kept box ls.items
IsFoundIn p kept box found.Stopped = Unit {0}

-- what a search of branch i found, with those of its lines that are kept
abbrev pub IsFoundAt : Problem → KeptLines → ℕ → Found → Type 0
IsFoundAt p kept i (found.Map m ls) = IsMapAt p kept i m.items ls.items
IsFoundAt p kept i (found.Refuted ls) = AreLinesAt p kept i ls.items
IsFoundAt p kept i found.Stopped = Unit {0}
