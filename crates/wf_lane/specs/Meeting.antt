-- Sets that are met with others.
use Rattle.std.specs.Prelude.{◌≡◌, ℕ, List, [], filter, slice_index_or}
use Rattle.wf_model.specs.Lists.{has}
use Rattle.wf_base.specs.Set.Sets.{values_in}

-- the values at this position
abbrev pub values_at : ℕ → List (List ℕ) → List ℕ
values_at i sets = values_in (slice_index_or sets i [])

-- the set at this position has left what the other one there has too
abbrev pub IsMetAt : ℕ → List (List ℕ) → List (List ℕ) → List (List ℕ) → Type 0
IsMetAt i sets others met = values_at i met ≡ filter (has (values_at i others)) (values_at i sets)
