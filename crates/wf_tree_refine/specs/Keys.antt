-- Keys: tuples without one of their places, each as one number.
use Rattle.std.specs.Prelude.{◌≡◌, ◌<◌, ◌≤◌, ◌==◌, ◌+◌, ◌*◌, ℕ, suc, List, [], ◌∷◌, length, slice_index_or, if◌then◌else◌}
use Rattle.std.specs.List.{AllByRecursion}
use Rattle.wf_model.specs.Task.{Tuple}
use Rattle.wf_tree_refine.specs.Forest.{IsForest}

-- values, numbered from a place on, as one number with 0 at the place that is left out
abbrev pub key_without : ℕ → ℕ → Tuple → ℕ
key_without skipped place [] = 0
key_without skipped place (x ∷ xs) = key_without skipped (suc place) xs * 256 + (if place == skipped then 0 else x)

abbrev pub row_at : List Tuple → ℕ → Tuple
row_at rows i = slice_index_or rows i []

-- values of tuples are below 256
abbrev pub HaveBytes : List Tuple → ℕ → Type 0
HaveBytes rows count = (i : ℕ) → i < count → AllByRecursion (λ x. x ≤ 255) (row_at rows i)

-- the same for all tuples with one key
abbrev pub IsEvenAt : ℕ → List Tuple → (ℕ → ℕ) → Type 0
IsEvenAt place rows f =
    (i j : ℕ) → i < length rows → j < length rows → key_without place 0 (row_at rows i) ≡ key_without place 0 (row_at rows j) → f i ≡ f j

-- from these roots to others: what had one root has one, tuples with one key have one, and none
-- else
pub record IsJoined (place : ℕ) (rows : List Tuple) (old new : ℕ → ℕ) : Type 0 where
  pub even : IsEvenAt place rows new
  pub kept : (i j : ℕ) → old i ≡ old j → new i ≡ new j
  pub only : (f : ℕ → ℕ) → IsEvenAt place rows f → ((i : ℕ) → i < length rows → f (old i) ≡ f i) → (i : ℕ) → i < length rows
      → f (new i) ≡ f i

-- parents of tuples with the roots that come of these
abbrev pub JoinsAt : ℕ → List Tuple → List ℕ → (ℕ → ℕ) → Type 0
JoinsAt place rows parents old = (new : ℕ → ℕ) × IsForest parents new × IsJoined place rows old new
