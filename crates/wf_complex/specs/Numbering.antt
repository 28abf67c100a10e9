-- Numbers in the order of first appearance.
use Rattle.std.specs.Prelude.{◌≡◌, ◌<◌, ◌==◌, ℕ, Bool, true, false, List, Option, Some, None, length, map, slice_index, get_or, All}
use Rattle.std.specs.List.{list_any}
use Rattle.wf_model.specs.Lists.{distinct, below}

-- whether one number stands at both places
abbrev pub same_at : List ℕ → ℕ → ℕ → Bool
same_at ids i j = slice_index ids i == slice_index ids j

-- those of the first n places at which a number stands first
abbrev pub first_places : List ℕ → ℕ → List ℕ
first_places ids n = distinct (same_at ids) (below n)

-- whether the number stands at one of the first n places
abbrev pub stands : List ℕ → ℕ → ℕ → Bool
stands ids n id = list_any (λ j. slice_index ids j == id) (below n)

-- what is known of a number after n places: that it was not met, or its place
-- among the different ones
abbrev pub Knows : List ℕ → ℕ → List ℕ → ℕ → Option ℕ → Type 0
Knows ids n firsts id None = stands ids n id ≡ false
Knows ids n firsts id (Some k) = (stands ids n id ≡ true) × (k < length firsts) × (slice_index ids (slice_index firsts k) ≡ id)

abbrev pub AllKnown : List ℕ → ℕ → List ℕ → List (Option ℕ) → Type 0
AllKnown ids n firsts numbers = (id : ℕ) → id < length numbers → Knows ids n firsts id (get_or numbers id None)

-- the numbers of a list at these places
abbrev pub picked : List ℕ → List ℕ → List ℕ
picked ids places = map (λ p. slice_index ids p) places

-- these are the different numbers of a list, the places at which each of them stands first, and for
-- each number of the list its place among the different ones
pub record AreNumbered (ids different firsts places : List ℕ) : Type 0 where
  pub firsts_are : firsts ≡ first_places ids (length ids)
  pub different_are : different ≡ picked ids firsts
  pub low : All (λ p. p < length firsts) places
  pub found : picked different places ≡ ids
