-- Tuples: those that differ at one place, what faces keep of them, and choices.
use Rattle.std.specs.Prelude.{ℕ, ◌==◌, ◌||◌, Bool, List, [], ◌∷◌, flat_map, map, slice_index_or}
use Rattle.std.specs.List.{list_all, list_any}
use Rattle.std.specs.Cmp.Lexicographic.{pointwise}
use Rattle.wf_model.specs.Lists.{below}
use Rattle.wf_model.specs.Simplex.{Simplex, same_vertex}
use Rattle.wf_model.specs.Task.{Rule, Tuple}
use Rattle.wf_tree_model.specs.Counting.Signs.{keep}
use Rattle.wf_tree_model.specs.Counting.Rules.{same_numbers}

abbrev pub value_at : Tuple → ℕ → ℕ
value_at tuple place = slice_index_or tuple place 0

abbrev pub has_tuple : List Tuple → Tuple → Bool
has_tuple tuples tuple = list_any (same_numbers tuple) tuples

-- two tuples of n values agree at all other places
abbrev pub agree_elsewhere : ℕ → ℕ → Tuple → Tuple → Bool
agree_elsewhere n place a b = list_all (λ other. (other == place) || (value_at a other == value_at b other)) (below n)

-- they differ at one place at most
abbrev pub are_adjacent : ℕ → Tuple → Tuple → Bool
are_adjacent n a b = list_any (λ place. agree_elsewhere n place a b) (below n)

-- ---- faces

-- which vertices of a simplex are in a face
abbrev pub mask_of : Simplex → Simplex → List Bool
mask_of face simplex = map (λ v. list_any (same_vertex v) face) simplex

abbrev pub is_part : Simplex → Simplex → Bool
is_part face simplex = pointwise same_vertex (keep (mask_of face simplex) simplex) face

-- what the face keeps of a tuple of the simplex is one of its own tuples
abbrev pub is_kept : Rule → List Bool → Tuple → Bool
is_kept face mask tuple = has_tuple face.tuples (keep mask tuple)

-- ---- choices

-- the tuples that these processes may decide in place of one, where each has these choices for a
-- value
abbrev pub choices_of : (ℕ → ℕ → List ℕ) → List ℕ → Tuple → List Tuple
choices_of choices [] tuple = [] ∷ []
choices_of choices (p ∷ ps) [] = [] ∷ []
choices_of choices (p ∷ ps) (x ∷ xs) = flat_map (λ z. map (λ rest. z ∷ rest) (choices_of choices ps xs)) (choices p x)
