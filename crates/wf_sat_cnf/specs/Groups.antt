-- Tuples by their values.
use Rattle.std.specs.Prelude.{◌≡◌, ℕ, ◌<◌, ◌&&◌, List, [], get_or, map}
use Rattle.wf_model.specs.Lists.{has}
use Rattle.wf_model.specs.Task.{Tuple}
use Rattle.wf_base.specs.Set.Sets.{value_limit}
use Rattle.wf_sat_cnf.specs.Found.{having, occurs, occurs_in_each}

-- the list of a value
abbrev pub group_of : ℕ → List (List Tuple) → List Tuple
group_of v groups = get_or groups v []

-- the list of each value has the tuples with it at the place
abbrev pub AreGroups : ℕ → List Tuple → List (List Tuple) → Type 0
AreGroups place tuples groups = (v : ℕ) → v < value_limit → group_of v groups ≡ having place v tuples

-- the set of each value has what the tuples with it at the place have at the next place
abbrev pub AreFollowers : ℕ → ℕ → List Tuple → List (List ℕ) → Type 0
AreFollowers place next tuples sets = (v a : ℕ) → v < value_limit → has (get_or sets v []) a ≡ occurs (having place v tuples) next a

-- the set of each value has those of the given values that the tuples of each list have so
abbrev pub AreAllowed : ℕ → ℕ → List ℕ → List (List Tuple) → List (List ℕ) → Type 0
AreAllowed place next values lists sets =
    (v a : ℕ) → v < value_limit → has (get_or sets v []) a ≡ (has values a && occurs_in_each (map (having place v) lists) next a)
