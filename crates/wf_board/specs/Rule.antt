-- The rule of the board: what its three words and what the seats know say
-- together, between any two steps.
use Rattle.std.specs.Prelude.{◌≡◌, ℕ, ◌+◌, ◌*◌, ◌<◌, ◌≤◌, ◌⊎◌, min, List, [], ◌∷◌, length, replicate, All, Contains}
use mathlib.Core.Option.{some}
use lib.ListN.{get_elem?}
use Rattle.atomic_table.specs.Seated.{TableId}
use Rattle.atomic_table.specs.Table.{State, Me, Step}
use Rattle.wf_core.specs.Count.{times, once_below, total}
use Rattle.wf_board.specs.declared.table.SeatView.{SeatView}
use Rattle.wf_board.specs.declared.table.Ledger.{Ledger}
use Rattle.wf_board.specs.Desk.{BoardId, Desk, knows, known, looked, posted, searched, is_cut, IsLow, IsLeast}

-- x stands in some seat's list
abbrev pub Stands : (SeatView → List ℕ) → List SeatView → ℕ → Type 0
Stands f views x = (seat : ℕ) × (v : SeatView) × (get_elem? views seat ≡ some v) × Contains (f v) x

abbrev pub Posted : List SeatView → ℕ → Type 0
Posted views x = Stands (λ v. v.posted) views x

-- some number that was seen is at most x, or below it
abbrev pub AtMost : List ℕ → ℕ → Type 0
AtMost seen x = (y : ℕ) × Contains seen y × (y ≤ x)

abbrev pub Below : List ℕ → ℕ → Type 0
Below seen x = (y : ℕ) × Contains seen y × (y < x)

-- What a seat knows, where the least word is l: it has settled at most b
-- branches for each number seen. No posted number is below l. A number that
-- it has seen is not below l, and is b or was posted. It has seen a number
-- that is at most each of its posts, and one that is below each of its cuts.
pub record Fits (b l : ℕ) (views : List SeatView) (v : SeatView) : Type 0 where
  pub room : length v.posted + (length v.refuted + length v.cut) ≤ b * length v.seen
  pub posts : All (λ x. l ≤ x) v.posted
  pub sees : All (λ x. (l ≤ x) × ((x ≡ b) ⊎ Posted views x)) v.seen
  pub after_posts : All (AtMost v.seen) v.posted
  pub above_cuts : All (Below v.seen) v.cut

-- The words are the least posted number, or the number of branches, and the numbers of refuted and
-- of cut branches. The seats have seen as many numbers as there are workers.
pub record Shown (ledger : Ledger) (s : State (Unit {0}) SeatView) : Type 0 where
  pub least : ℕ
  pub refuted : ℕ
  pub cut : ℕ
  pub words : s.words ≡ least ∷ refuted ∷ cut ∷ []
  pub workers : total (λ v. length v.seen) s.views ≡ ledger.workers
  pub refuted_is : refuted ≡ total (λ v. length v.refuted) s.views
  pub cut_is : cut ≡ total (λ v. length v.cut) s.views
  pub least_is : (least ≤ ledger.branches) × ((least ≡ ledger.branches) ⊎ Posted s.views least)
  pub fits : (seat : ℕ) (v : SeatView) → get_elem? s.views seat ≡ some v → Fits ledger.branches least s.views v

-- the first seat has every worker's number
abbrev pub opening_view : Ledger → SeatView
opening_view ledger = knows (replicate ledger.workers ledger.branches) [] [] []

-- a seat as the table sees it: what it knows, and no slots
abbrev pub Seated : Type 0
Seated = Me (Unit {0}) SeatView

abbrev pub PlayOf : Type 1
PlayOf = Step (Unit {0}) → Seated → ℕ → Seated → Type 0

-- Each step of a worker's seat leaves the seat as the call of its name says. A number that the step
-- sees is at most what the seat had seen and each of its posts.

abbrev pub looks : PlayOf
looks step me found after =
    (d : Desk) → me.0 ≡ known d → IsLow d found × (after ≡ (known (looked d found), me.1))

abbrev pub posts : PlayOf
posts step me found after =
    (d : Desk) → me.0 ≡ known d → IsLow d (min found step.first) × (after ≡ (known (posted d step.first (min found step.first)), me.1))

abbrev pub refutes : ℕ → PlayOf
refutes branch step me found after = (d : Desk) → me.0 ≡ known d → after ≡ (known (searched d branch), me.1)

abbrev pub cuts : ℕ → PlayOf
cuts branch step me found after = (d : Desk) → me.0 ≡ known d → after ≡ (known (is_cut d branch), me.1)

-- A worker's seat: it has seen one number, its posts are counted, and no
-- branch stands twice in what it has settled
pub record Sits (seen posts branches : ℕ) (me : Seated) : Type 0 where
  pub is : me ≡ (knows (seen ∷ []) me.0.posted me.0.refuted me.0.cut, [])
  pub counted : posts ≡ length me.0.posted
  pub once : (x : ℕ) → times x me.0.posted + (times x me.0.refuted + times x me.0.cut) ≤ once_below x branches

-- a seat that has the numbers of these many workers, and nothing else
abbrev pub IsRest : Seated → ℕ → ℕ → Type 0
IsRest me left branches = me ≡ (knows (replicate left branches) [] [] [], [])

-- What the words say at the end, where one seat has every worker's number
pub record Ends (branches workers : ℕ) (v : SeatView) (least refuted cut : ℕ) : Type 0 where
  pub least_is : IsLeast branches v.posted least
  pub refuted_is : refuted ≡ length v.refuted
  pub cut_is : cut ≡ length v.cut
  pub seen : All (λ x. (x ≡ branches) ⊎ Contains v.posted x) v.seen
  pub room : length v.posted + (length v.refuted + length v.cut) ≤ branches * workers

-- a seat that is still at hand holds the numbers of the workers that have no seat yet
abbrev pub IsLeft : BoardId → TableId → Seated → ℕ → Type 0
IsLeft p table me left = IsRest me left p.branches × (table ≡ p.table)
