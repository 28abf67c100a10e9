-- Trees of numbers, and the roots of numbers.
use Rattle.std.specs.Prelude.{◌≡◌, ◌<◌, ◌≤◌, ◌==◌, ℕ, zero, suc, max, min, List, length, slice_index, if◌then◌else◌}

-- the parent of a number is no larger
abbrev pub AreParents : List ℕ → Type 0
AreParents parents = (i : ℕ) → i < length parents → slice_index parents i ≤ i

-- the root of each number, where roots are their own parents
pub record IsForest (parents : List ℕ) (label : ℕ → ℕ) : Type 0 where
  pub above : (i : ℕ) → i < length parents → label (slice_index parents i) ≡ label i
  pub root : (i : ℕ) → i < length parents → slice_index parents i ≡ i → label i ≡ i
  pub low : (i : ℕ) → i < length parents → label i ≤ i
  pub still : (i : ℕ) → i < length parents → label (label i) ≡ label i

-- the smaller of two roots in place of the larger
abbrev pub merged : (ℕ → ℕ) → ℕ → ℕ → ℕ → ℕ
merged label a b i = if label i == max a b then min a b else label i

-- how many roots are below a number
abbrev pub rank : (ℕ → ℕ) → ℕ → ℕ
rank label zero = 0
rank label (suc i) = if label i == i then suc (rank label i) else rank label i
