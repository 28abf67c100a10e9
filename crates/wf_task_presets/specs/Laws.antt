-- What set agreement and renaming ask for, in the words of those who defined them.
use Rattle.std.specs.Prelude.{◌≡◌, ◌≢◌, ◌<◌, ◌≤◌, ◌↔◌, ℕ, List, length, All, Contains, Ok}
use Rattle.std.specs.List.{AllPairs}
use Rattle.wf_model.specs.Simplex.{Simplex, values_of}
use Rattle.wf_model.specs.Task.{Task, Tuple}
use Rattle.wf_task_presets.specs.declared.preset.Inputs.{Inputs}
use Rattle.wf_task_presets.specs.Preset.{set_agreement_of, renaming_of}

-- at most k different values: some list of at most k has each of them
abbrev pub HasAtMost : ℕ → List ℕ → Type 0
HasAtMost k xs = (ys : List ℕ) × (length ys ≤ k) × All (Contains ys) xs

-- Each participant decides, each decided value is the input of a participant, and at most k
-- different values are decided (Chaudhuri 1993).
pub record IsAgreement (k : ℕ) (participants : Simplex) (decided : Tuple) : Type 0 where
  pub each : length decided ≡ length participants
  pub valid : All (Contains (values_of participants)) decided
  pub few : HasAtMost k decided

-- Each participant decides a name below the bound, and no two names are equal (Attiya, Bar-Noy,
-- Dolev, Peleg and Reischuk 1990).
pub record IsRenaming (bound : ℕ) (participants : Simplex) (names : Tuple) : Type 0 where
  pub each : length names ≡ length participants
  pub small : All (λ name. name < bound) names
  pub different : AllPairs (λ x y. x ≢ y) names

-- the participants of each input simplex may decide exactly the tuples of which this holds
abbrev pub Allows : (Simplex → Tuple → Type 0) → Task → Type 0
Allows holds t = All (λ rule. (tuple : Tuple) → Contains rule.tuples tuple ↔ holds rule.input tuple) t.delta

-- of each set agreement task within the limits
abbrev pub SetAgreementDecidesFewInputs : Type 0
SetAgreementDecidesFewInputs =
    (n k : ℕ) (inputs : Inputs) (t : Task) → set_agreement_of n k inputs ≡ Ok t → Allows (IsAgreement k) t

-- of each renaming task within the limits
abbrev pub RenamingDecidesDifferentNames : Type 0
RenamingDecidesDifferentNames =
    (n names : ℕ) (t : Task) → renaming_of n names ≡ Ok t → Allows (IsRenaming names) t
