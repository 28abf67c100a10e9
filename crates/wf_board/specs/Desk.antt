-- What contracts see of a board and of a seat, and what each call changes in a seat.
use Rattle.std.specs.Prelude.{◌≡◌, ℕ, ◌+◌, ◌*◌, ◌^◌, ◌<◌, ◌≤◌, ◌⊎◌, List, [], ◌∷◌, ◌++◌, length, All, Contains}
use Rattle.wf_core.specs.Count.{times}
use Rattle.atomic_table.specs.Seated.{TableId}
use Rattle.wf_board.specs.declared.table.SeatView.{SeatView}

-- a board: which one, and its branches and workers
pub record BoardId : Type 0 where
  pub table : TableId
  pub branches : ℕ
  pub workers : ℕ

abbrev pub board_id : TableId → ℕ → ℕ → BoardId
board_id table branches workers = record { table = table; branches = branches; workers = workers }

-- the numbers of branches and workers that a board may have: at least one
-- worker, and all that its words count fits in u32
abbrev pub MayHave : ℕ → ℕ → Type 0
MayHave branches workers = (0 < workers) × (branches * workers < 2 ^ 32)

-- the board is of so many branches and workers
abbrev pub HasSize : ℕ → ℕ → BoardId → Type 0
HasSize branches workers p = (p.branches ≡ branches) × (p.workers ≡ workers)

-- a seat: of which board, the number that it has seen, and the branches that
-- it has posted, refuted and cut
pub record Desk : Type 0 where
  pub table : TableId
  pub branches : ℕ
  pub seen : ℕ
  pub posted : List ℕ
  pub refuted : List ℕ
  pub cut : List ℕ

abbrev pub desk : TableId → ℕ → ℕ → List ℕ → List ℕ → List ℕ → Desk
desk table branches seen posted refuted cut =
    record { table = table; branches = branches; seen = seen; posted = posted; refuted = refuted; cut = cut }

-- a seat that has done nothing has seen the number of branches
abbrev pub fresh_desk : BoardId → Desk
fresh_desk p = desk p.table p.branches p.branches [] [] []

-- a seat for each worker, none of which has done anything
abbrev pub AreFresh : BoardId → ℕ → List Desk → Type 0
AreFresh p workers ds = (length ds ≡ workers) × All (λ d. d ≡ fresh_desk p) ds

-- the branches that the seat has settled
abbrev pub settled : Desk → List ℕ
settled d = d.posted ++ (d.refuted ++ d.cut)

-- a seat of this board
abbrev pub IsSeatOf : BoardId → Desk → Type 0
IsSeatOf p d = (d.table ≡ p.table) × (d.branches ≡ p.branches)

-- the seat may settle the branch: the board has it, and the seat has not settled it
abbrev pub MaySettle : BoardId → Desk → ℕ → Type 0
MaySettle p d branch = (branch < p.branches) × (times branch (settled d) ≡ 0)

-- the number is at most what the seat has seen, and each of its posts
abbrev pub IsLow : Desk → ℕ → Type 0
IsLow d least = (least ≤ d.seen) × All (λ x. least ≤ x) d.posted

-- the seat after each of the calls, which found or left this least number

abbrev pub looked : Desk → ℕ → Desk
looked d least = record d { seen = least }

abbrev pub posted : Desk → ℕ → ℕ → Desk
posted d branch least = record d { seen = least; posted = d.posted ++ branch ∷ [] }

abbrev pub searched : Desk → ℕ → Desk
searched d branch = record d { refuted = d.refuted ++ branch ∷ [] }

abbrev pub is_cut : Desk → ℕ → Desk
is_cut d branch = record d { cut = d.cut ++ branch ∷ [] }

-- seats of this board
abbrev pub AreSeats : BoardId → List Desk → Type 0
AreSeats p ds = All (IsSeatOf p) ds

-- What seats know of the table

abbrev pub knows : List ℕ → List ℕ → List ℕ → List ℕ → SeatView
knows seen posted refuted cut = record { seen = seen; posted = posted; refuted = refuted; cut = cut }

abbrev pub nothing : SeatView
nothing = knows [] [] [] []

abbrev pub joined : SeatView → SeatView → SeatView
joined v w = knows (v.seen ++ w.seen) (v.posted ++ w.posted) (v.refuted ++ w.refuted) (v.cut ++ w.cut)

-- what a worker's seat knows
abbrev pub known : Desk → SeatView
known d = knows (d.seen ∷ []) d.posted d.refuted d.cut

-- what several seats know together, the last one's first
abbrev pub gathered : List Desk → SeatView
gathered [] = nothing
gathered (d ∷ ds) = joined (gathered ds) (known d)

abbrev pub all_posted : List Desk → List ℕ
all_posted ds = (gathered ds).posted

abbrev pub all_refuted : List Desk → List ℕ
all_refuted ds = (gathered ds).refuted

abbrev pub all_cut : List Desk → List ℕ
all_cut ds = (gathered ds).cut

-- the least of these numbers, or b where there is none
pub record IsLeast (b : ℕ) (xs : List ℕ) (least : ℕ) : Type 0 where
  pub bound : least ≤ b
  pub below : All (λ x. least ≤ x) xs
  pub reached : (least ≡ b) ⊎ Contains xs least

-- these seats are all the workers' seats
abbrev pub AreAllSeats : BoardId → List Desk → Type 0
AreAllSeats p ds = (length ds ≡ p.workers) × AreSeats p ds

-- how many branches were searched: those that were posted, and those that were refuted
abbrev pub count_searched : List Desk → ℕ
count_searched ds = length (all_posted ds) + length (all_refuted ds)

-- what each seat has seen is the number of branches, or was posted
abbrev pub HaveSeenPosts : BoardId → List Desk → Type 0
HaveSeenPosts p ds = All (λ d. (d.seen ≡ p.branches) ⊎ Contains (all_posted ds) d.seen) ds
