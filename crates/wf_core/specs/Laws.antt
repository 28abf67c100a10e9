-- What holds after every list of legal events.
use Rattle.std.specs.Prelude.{◌≡◌, ℕ, ◌+◌, ◌<◌, ◌≤◌, ◌⊎◌, ◌↔◌, Bool, true, false, List, ◌∷◌, ◌++◌, None, All, slice_index_or}
use Rattle.wf_core.specs.declared.event.Status.TheVariants as status
use Rattle.wf_core.specs.declared.event.Event.{Event}
use Rattle.wf_core.specs.declared.event.Event.TheVariants.{Take, Post, Searched, Cut}
use Rattle.wf_core.specs.declared.event.Illegal.{Illegal}
use Rattle.wf_core.specs.Account.{account_of}
use Rattle.wf_core.specs.Core.{State, Is, Saw, Step, Run, IsFirstIllegal, start, refusal}

abbrev pub EventsThatAreNotRefusedHaveAStep : Type 0
EventsThatAreNotRefusedHaveAStep = (s : State) (e : Event) → (refusal s e ≡ None) ↔ ((t : State) × Step s e t)

abbrev pub AStepLeavesOneState : Type 0
AStepLeavesOneState = (s t u : State) (e : Event) → Step s e t → Step s e u → t ≡ u

abbrev pub ListsRunOrStop : Type 0
ListsRunOrStop = (s : State) (es : List Event)
    → ((t : State) × Run s es t) ⊎ ((at : ℕ) × (why : Illegal) × IsFirstIllegal s es at why)

abbrev pub ListsThatRunDoNotStop : Type 0
ListsThatRunDoNotStop = (s t : State) (es : List Event) (at : ℕ) (why : Illegal)
    → Run s es t → ¬ (IsFirstIllegal s es at why)

abbrev pub ARunLeavesOneState : Type 0
ARunLeavesOneState = (s t u : State) (es : List Event) → Run s es t → Run s es u → t ≡ u

abbrev pub ListsStopAtOnePlace : Type 0
ListsStopAtOnePlace = (s : State) (es : List Event) (at other : ℕ) (why because : Illegal)
    → IsFirstIllegal s es at why → IsFirstIllegal s es other because → (at ≡ other) × (why ≡ because)

-- l is the least posted branch, or b where none is posted
pub record IsLeastPosted (b : ℕ) (s : State) (l : ℕ) : Type 0 where
  pub bound : l ≤ b
  pub below : (i : ℕ) → Is s i status.Posted → l ≤ i
  pub reached : (l ≡ b) ⊎ Is s l status.Posted

abbrev pub LeastIsPosted : Type 0
LeastIsPosted = (branches workers : ℕ) (events : List Event) (s : State)
    → Run (start branches workers) events s → IsLeastPosted branches s s.least

-- a number that a worker has seen was posted, or is the number of branches
abbrev pub SeenWasPosted : Type 0
SeenWasPosted = (branches workers : ℕ) (events : List Event) (s : State)
    → Run (start branches workers) events s
    → (w n : ℕ) → Saw s w n → (s.least ≤ n) × ((n ≡ branches) ⊎ Is s n status.Posted)

abbrev pub CutLiesAbove : Type 0
CutLiesAbove = (branches workers : ℕ) (events : List Event) (s : State)
    → Run (start branches workers) events s
    → (i : ℕ) → Is s i status.Cut → (j : ℕ) × Is s j status.Posted × (j < i)

-- the event settles branch i for worker w
abbrev pub Settles : Event → ℕ → ℕ → Type 0
Settles e w i = (e ≡ Post w i) ⊎ ((e ≡ Searched w i) ⊎ (e ≡ Cut w i))

-- by these events worker w took branch i, and has not settled it since
abbrev pub Holds : List Event → ℕ → ℕ → Type 0
Holds events w i = (before later : List Event) × (events ≡ before ++ Take w i ∷ later) × All (λ e. ¬ (Settles e w i)) later

abbrev pub HeldIsHeld : Type 0
HeldIsHeld = (branches workers : ℕ) (events : List Event) (s : State)
    → Run (start branches workers) events s
    → (w i : ℕ) → Holds events w i ↔ Is s i (status.Held w)

abbrev pub OneWorker : Type 0
OneWorker = (branches workers : ℕ) (events : List Event) (s : State)
    → Run (start branches workers) events s
    → (v w i : ℕ) → Holds events v i → Holds events w i → v ≡ w

abbrev pub OneBranch : Type 0
OneBranch = (branches workers : ℕ) (events : List Event) (s : State)
    → Run (start branches workers) events s
    → (w i j : ℕ) → Holds events w i → Holds events w j → i ≡ j

-- the branch was searched or cut
abbrev pub IsSettled : State → ℕ → Type 0
IsSettled s i = Is s i status.Posted ⊎ (Is s i status.Refuted ⊎ Is s i status.Cut)

-- whether branch i has a map
abbrev pub has_map : List Bool → ℕ → Bool
has_map maps i = slice_index_or maps i false

-- i is the first true place, or b where none of the first b places is true
pub record IsFirstTrue (maps : List Bool) (b i : ℕ) : Type 0 where
  pub bound : i ≤ b
  pub before : (j : ℕ) → j < i → has_map maps j ≡ false
  pub here : i < b → has_map maps i ≡ true

-- Posts and refutals tell the truth, and every branch is settled. Cut
-- branches may have a map or not.
abbrev pub FirstTruePlace : Type 0
FirstTruePlace = (branches workers : ℕ) (events : List Event) (s : State) (maps : List Bool)
    → Run (start branches workers) events s
    → ((i : ℕ) → Is s i status.Posted → has_map maps i ≡ true)
    → ((i : ℕ) → Is s i status.Refuted → has_map maps i ≡ false)
    → ((i : ℕ) → i < branches → IsSettled s i)
    → IsFirstTrue maps branches s.least

abbrev pub AccountsHaveAllBranches : Type 0
AccountsHaveAllBranches = (branches workers : ℕ) (events : List Event) (s : State)
    → Run (start branches workers) events s
    → (account_of s).branches ≡ branches

-- once every branch is settled, each was searched or cut
abbrev pub AccountsAddUp : Type 0
AccountsAddUp = (branches workers : ℕ) (events : List Event) (s : State)
    → Run (start branches workers) events s
    → ((i : ℕ) → i < branches → IsSettled s i)
    → (account_of s).searched + (account_of s).cut ≡ branches

abbrev pub NoneIsCutWithoutAPost : Type 0
NoneIsCutWithoutAPost = (branches workers : ℕ) (events : List Event) (s : State)
    → Run (start branches workers) events s
    → ((i : ℕ) → ¬ (Is s i status.Posted))
    → ((account_of s).least ≡ branches) × ((account_of s).cut ≡ 0)
