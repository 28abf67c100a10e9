-- Splits: the values that processes decide on a simplex are taken apart, each into names.
--
-- Executions that agree on the view of a process are joined by steps that keep this view and change
-- that of one other process (the star of a vertex of Ch^r is strongly connected). So of the tuples
-- with one value at its place a decision map decides those of one part with this view, joined by
-- such steps. Each part has a name of its own for the value: where a value is a local articulation
-- point of the output complex, its parts become vertices of their own.
use Rattle.std.specs.Prelude.{◌≡◌, ◌<◌, ◌==◌, ◌&&◌, not, ℕ, suc, Bool, true, List, [], ◌∷◌, Contains, filter, flat_map, length, map, slice_index_or, if◌then◌else◌}
use Rattle.std.specs.List.{list_any}
use Rattle.std.specs.Ordering.{nat_cmp}
use Rattle.wf_model.specs.Lists.{below, has, in_order}
use Rattle.wf_model.specs.Simplex.{processes_of}
use Rattle.wf_model.specs.Task.{Rule, Task, Tuple}
use Rattle.wf_tree_model.specs.Counting.Signs.{keep}
use Rattle.wf_tree_model.specs.Parts.{parts}
use Rattle.wf_tree_model.specs.Refined.{allowing}
use Rattle.wf_tree_model.specs.Tuples.{agree_elsewhere, choices_of, has_tuple, is_kept, is_part, mask_of, value_at}

-- two tuples of n values agree at the place and at all others but one
abbrev pub hang_together : ℕ → ℕ → Tuple → Tuple → Bool
hang_together n place a b = list_any (λ p. not (p == place) && agree_elsewhere n p a b) (below n)

-- the rule of a simplex, and what stands for the value at a place of each of its tuples
pub record Splitting : Type 0 where
  pub rule : Rule
  pub name : ℕ → Tuple → ℕ

-- at each place tuples that hang together there have one name
pub record IsSplitting (t : Task) (s : Splitting) : Type 0 where
  pub listed : Contains t.delta s.rule
  pub unbroken : (place : ℕ) (a b : Tuple) → place < length s.rule.input → Contains s.rule.tuples a → Contains s.rule.tuples b
      → hang_together (length s.rule.input) place a b ≡ true → s.name place a ≡ s.name place b

abbrev pub with_names : Splitting → Tuple → Tuple
with_names s tuple = map (λ place. s.name place tuple) (below (length s.rule.input))

-- ---- on the faces of the simplex

-- what the face keeps of the tuples with names, where it allows what it keeps without them
abbrev pub tuples_on_face : Splitting → Rule → List Tuple
tuples_on_face s face =
    let mask = mask_of face.input s.rule.input in
    map (λ tuple. keep mask (with_names s tuple)) (filter (is_kept face mask) s.rule.tuples)

-- ---- elsewhere

-- the names of a value at a place, if it is the place of the process
abbrev pub names_at : Splitting → ℕ → ℕ → ℕ → List ℕ
names_at s process value place =
    if slice_index_or (processes_of s.rule.input) place 0 == process
    then map (s.name place) (filter (λ tuple. value_at tuple place == value) s.rule.tuples)
    else []

-- what a process may decide in place of a value: the value, or any name of it, each once
abbrev pub choices : Splitting → ℕ → ℕ → List ℕ
choices s process value = in_order nat_cmp (value ∷ flat_map (names_at s process value) (below (length s.rule.input)))

-- ---- the task

abbrev pub tuples_split : Splitting → Rule → List Tuple
tuples_split s rule =
    if is_part rule.input s.rule.input
    then tuples_on_face s rule
    else flat_map (choices_of (choices s) (processes_of rule.input)) rule.tuples

-- the task with names in place of values: on the faces of the simplex as the tuples of the simplex
-- have them, and elsewhere any of them
abbrev pub split : Splitting → Task → Task
split s t = allowing (tuples_split s) t

-- ---- by stars

-- the parts of what the task allows on a simplex, with what is decided at one place kept
abbrev pub stars : Rule → ℕ → List (List Tuple)
stars rule place = parts (hang_together (length rule.input) place) rule.tuples

-- what a part has at the place
abbrev pub value_of_part : ℕ → List Tuple → ℕ
value_of_part place part = value_at (slice_index_or part 0 []) place

-- A name for each part: the first part with a value keeps it, and the others get new ones, from
-- this one on. The values of the parts before are those that were seen.
abbrev pub names_of : ℕ → ℕ → List ℕ → List (List Tuple) → List ℕ
names_of place new seen [] = []
names_of place new seen (part ∷ more) =
    if has seen (value_of_part place part)
    then new ∷ names_of place (suc new) seen more
    else value_of_part place part ∷ names_of place new (value_of_part place part ∷ seen) more

-- the name that stands beside the first part with this tuple
abbrev pub name_beside : List (List Tuple) → List ℕ → Tuple → ℕ
name_beside [] names tuple = 0
name_beside (part ∷ more) [] tuple = 0
name_beside (part ∷ more) (name ∷ names) tuple = if has_tuple part tuple then name else name_beside more names tuple

-- the values of a simplex taken apart by stars, where new names begin with this one
abbrev pub by_stars : Rule → ℕ → Splitting
by_stars rule new =
    record { rule = rule; name = λ place tuple. name_beside (stars rule place) (names_of place new [] (stars rule place)) tuple }
