-- Covers: sheets over the values that processes decide on a simplex.
--
-- Two values at two places of the simplex take the sheets at the first to the sheets at the second.
-- Going round the places of a tuple of the simplex leads each sheet to itself: the sheets are a
-- covering complex of what the task allows there. Ch^r of a simplex is simply connected, so a
-- decision map also gives each view on the simplex a sheet.
use Rattle.std.specs.Prelude.{◌≡◌, ◌<◌, ◌≤◌, ◌==◌, ◌&&◌, nat_lt, ℕ, Bool, true, List, [], ◌∷◌, Contains, filter, flat_map, length, map, slice_index_or, if◌then◌else◌}
use Rattle.std.specs.List.{list_all}
use Rattle.std.specs.Cmp.Lexicographic.{pointwise}
use Rattle.wf_model.specs.Lists.{below, has}
use Rattle.wf_model.specs.Simplex.{Vertex, processes_of, same_vertex}
use Rattle.wf_model.specs.Task.{Rule, Task, Tuple}
use Rattle.wf_tree_model.specs.Counting.Signs.{keep}
use Rattle.wf_tree_model.specs.Refined.{allowing}
use Rattle.wf_tree_model.specs.Tuples.{choices_of, is_kept, is_part, mask_of, value_at}

-- the rule of a simplex, a place there, and how many sheets
pub record Covering : Type 0 where
  pub rule : Rule
  pub corner : ℕ
  pub sheets : ℕ
  pub move : ℕ → ℕ → ℕ → ℕ → ℕ → ℕ  -- a place with its value, another with its own, a sheet at the first: the sheet at the second
  pub name : ℕ → ℕ → ℕ  -- what a process decides in place of a value on a sheet

-- from a place of a tuple to another
abbrev pub moved : Covering → Tuple → ℕ → ℕ → ℕ → ℕ
moved c tuple i j sheet = if i == j then sheet else c.move i (value_at tuple i) j (value_at tuple j) sheet

-- by a place in between, or back where k is i
abbrev pub is_flat_at : Covering → Tuple → ℕ → ℕ → ℕ → ℕ → Bool
is_flat_at c tuple i j k sheet =
    nat_lt (moved c tuple i j sheet) c.sheets && (moved c tuple j k (moved c tuple i j sheet) == moved c tuple i k sheet)

abbrev pub all_places : Covering → (ℕ → Bool) → Bool
all_places c test = list_all test (below (length c.rule.input))

abbrev pub is_flat_on : Covering → Tuple → Bool
is_flat_on c tuple = all_places c (λ i. all_places c (λ j. all_places c (λ k. list_all (is_flat_at c tuple i j k) (below c.sheets))))

abbrev pub is_flat : Covering → Bool
is_flat c = list_all (is_flat_on c) c.rule.tuples

-- a simplex of I of two participants or more, a place there, and at least one sheet
pub record IsCovering (t : Task) (c : Covering) : Type 0 where
  pub listed : Contains t.delta c.rule
  pub some : 2 ≤ length c.rule.input
  pub inside : c.corner < length c.rule.input
  pub some_sheet : 0 < c.sheets
  pub flat : is_flat c ≡ true

-- a tuple of the simplex, with this sheet at the corner
abbrev pub lifted : Covering → Tuple → ℕ → Tuple
lifted c tuple sheet = map (λ place. c.name (value_at tuple place) (moved c tuple c.corner place sheet)) (below (length c.rule.input))

abbrev pub lifts : Covering → Tuple → List Tuple
lifts c tuple = map (lifted c tuple) (below c.sheets)

-- ---- on the faces of the simplex

-- what the face keeps of the tuples on sheets, where it allows what it keeps without them
abbrev pub lifts_on_face : Covering → Rule → List Tuple
lifts_on_face c face =
    let mask = mask_of face.input c.rule.input in
    map (keep mask) (flat_map (lifts c) (filter (is_kept face mask) c.rule.tuples))

abbrev pub corner_vertex : Covering → Vertex
corner_vertex c = slice_index_or c.rule.input c.corner (0, 0)

abbrev pub is_corner : Covering → Rule → Bool
is_corner c rule = pointwise same_vertex rule.input (corner_vertex c ∷ [])

-- the corner alone is on sheet 0
abbrev pub lifts_on_corner : Covering → Rule → List Tuple
lifts_on_corner c rule = map (λ tuple. c.name (value_at tuple 0) 0 ∷ []) rule.tuples

-- ---- elsewhere

-- the processes of the simplex decide a value on any sheet
abbrev pub sheets_of : Covering → ℕ → ℕ → List ℕ
sheets_of c process value = if has (processes_of c.rule.input) process then map (c.name value) (below c.sheets) else value ∷ []

-- ---- the task

abbrev pub tuples_covered : Covering → Rule → List Tuple
tuples_covered c rule =
    if is_corner c rule
    then lifts_on_corner c rule
    else if is_part rule.input c.rule.input then lifts_on_face c rule
    else flat_map (choices_of (sheets_of c) (processes_of rule.input)) rule.tuples

-- the task with values on sheets: on the faces of the simplex as the tuples of the simplex take
-- sheets to one another, and elsewhere any of them
abbrev pub covered : Covering → Task → Task
covered c t = allowing (tuples_covered c) t
