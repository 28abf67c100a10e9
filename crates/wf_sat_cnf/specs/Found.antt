-- How the minimal forbidden patterns are found: place by place, from the tuples that have the
-- values chosen so far, and from those that have all of these but one.
use Rattle.std.specs.Prelude.{ℕ, ◌+◌, ◌&&◌, Bool, not, List, [], ◌∷◌, ◌++◌, map, filter, flat_map, zip, drop, length, if◌then◌else◌, nat_lt, ◌-◌, slice_index}
use Rattle.std.specs.List.{list_any, list_all}
use Rattle.wf_model.specs.Task.{Tuple}
use Rattle.wf_model.specs.Box.{has_at}
use Rattle.wf_sat_formula.specs.Patterns.{Pattern}

-- the tuples with a value at a place
abbrev pub having : ℕ → ℕ → List Tuple → List Tuple
having place a tuples = filter (λ tuple. has_at tuple place a) tuples

abbrev pub occurs : List Tuple → ℕ → ℕ → Bool
occurs tuples place a = list_any (λ tuple. has_at tuple place a) tuples

abbrev pub occurs_in_each : List (List Tuple) → ℕ → ℕ → Bool
occurs_in_each lists place a = list_all (λ tuples. occurs tuples place a) lists

-- The values at the places ahead with which the chosen ones are a minimal forbidden pattern: by the
-- tuples that fit the chosen values, and for each of these by the tuples that fit the others.
abbrev pub found_at : List ℕ → List ℕ → List Tuple → List (List Tuple) → List (List ℕ)
found_at values [] fitting nearly = []
found_at values (p ∷ []) fitting nearly = map (λ a. a ∷ []) (filter (λ a. not (occurs fitting p a) && occurs_in_each nearly p a) values)
found_at values (p ∷ q ∷ ps) fitting nearly =
    flat_map (λ a. map (λ rest. a ∷ rest) (found_at values (q ∷ ps) (having p a fitting) (map (having p a) nearly ++ fitting ∷ []))) (filter (occurs fitting p) values)

-- the patterns at these places whose values begin so, and go on with one of these lists
abbrev pub patterns_with : List ℕ → List ℕ → List (List ℕ) → List Pattern
patterns_with places begun lists = map (λ rest. zip places (begun ++ rest)) lists

-- those that go on with this value at the place of this number
abbrev pub found_with : List ℕ → List ℕ → ℕ → List ℕ → List Tuple → List (List Tuple) → ℕ → List Pattern
found_with values places from begun fitting nearly a =
    let p = slice_index places from in
    patterns_with places (begun ++ a ∷ []) (found_at values (drop (from + 1) places) (having p a fitting) (map (having p a) nearly ++ fitting ∷ []))

-- the choices of some of four places, but for that of none: by how many they are, and then as lists
abbrev pub choices : List (List ℕ)
choices = (0 ∷ []) ∷ (1 ∷ []) ∷ (2 ∷ []) ∷ (3 ∷ [])
    ∷ (0 ∷ 1 ∷ []) ∷ (0 ∷ 2 ∷ []) ∷ (0 ∷ 3 ∷ []) ∷ (1 ∷ 2 ∷ []) ∷ (1 ∷ 3 ∷ []) ∷ (2 ∷ 3 ∷ [])
    ∷ (0 ∷ 1 ∷ 2 ∷ []) ∷ (0 ∷ 1 ∷ 3 ∷ []) ∷ (0 ∷ 2 ∷ 3 ∷ []) ∷ (1 ∷ 2 ∷ 3 ∷ []) ∷ (0 ∷ 1 ∷ 2 ∷ 3 ∷ []) ∷ []

-- the last of the places is below n
abbrev pub lies_below : ℕ → List ℕ → Bool
lies_below n places = nat_lt (slice_index places (length places - 1)) n

-- the patterns at these places, if there are such places
abbrev pub patterns_on : ℕ → List ℕ → List Tuple → List ℕ → List Pattern
patterns_on n values tuples places = if lies_below n places then patterns_with places [] (found_at values places tuples []) else []
