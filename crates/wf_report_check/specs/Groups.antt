-- Tuples by the values that they have.
use Rattle.std.specs.Prelude.{◌≡◌, ℕ, ◌<◌, ◌/◌, ◌%◌, List, filter, get_or, length}
use Rattle.wf_model.specs.Task.{Tuple}
use Rattle.wf_model.specs.Box.{has_at}

-- the group of number 4 * v + p has the tuples with the value v at the place p
abbrev pub AreGrouped : List Tuple → List (List Tuple) → Type 0
AreGrouped tuples groups =
    (i : ℕ) (g : List Tuple) → i < length groups → g ≡ get_or groups i g → g ≡ filter (λ t. has_at t (i % 4) (i / 4)) tuples
