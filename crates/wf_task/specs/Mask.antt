-- Sets that hold the values of a list.
use Rattle.std.specs.Prelude.{◌≡◌, ◌||◌, ℕ, List}
use Rattle.wf_model.specs.Lists.{has}
use Rattle.wf_base.specs.Set.Sets.{values_in}

-- the set has what the list has
abbrev pub IsMaskOf : List ℕ → List ℕ → Type 0
IsMaskOf set xs = (v : ℕ) → has (values_in set) v ≡ has xs v

-- the set has what the first one has, and what the list has
abbrev pub HasMore : List ℕ → List ℕ → List ℕ → Type 0
HasMore first xs set = (v : ℕ) → has (values_in set) v ≡ (has (values_in first) v || has xs v)
