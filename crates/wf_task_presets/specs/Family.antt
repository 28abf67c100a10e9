-- Families of tasks: which values the processes of an input simplex may decide together.
use Rattle.std.specs.Prelude.{ℕ, ◌≤◌, nat_le, nat_lt, Bool, List, map, filter, flat_map, length, sum_by, zip, None, Some, Option, if◌then◌else◌}
use Rattle.std.specs.Ordering.{nat_cmp}
use Rattle.wf_model.specs.Lists.{below, lists_of, in_order}
use Rattle.wf_model.specs.Presets.{different, all_different}
use Rattle.wf_model.specs.Simplex.{Simplex, processes_of, values_of, complex_of}
use Rattle.wf_model.specs.Task.{Task, Tuple}
use Rattle.wf_task_presets.specs.declared.family.Family.{Family}
use Rattle.wf_task_presets.specs.declared.family.Family.TheVariants.{Agreement, Naming}

-- the values that some process of an input simplex may decide, ascending
abbrev pub values_for : Family → Simplex → List ℕ
values_for (Agreement k) s = in_order nat_cmp (values_of s)
values_for (Naming names) s = below names

-- whether the processes may decide these values together
abbrev pub allows : Family → Tuple → Bool
allows (Agreement k) tuple = nat_le (different tuple) k
allows (Naming names) tuple = all_different tuple

-- the tuples of an input simplex
abbrev pub tuples_for : Family → Simplex → List Tuple
tuples_for family s = filter (allows family) (lists_of (values_for family s) (length s))

-- the allowed lists of so many of these values
abbrev pub allowed_lists : Family → List ℕ → ℕ → List Tuple
allowed_lists family values size = filter (allows family) (lists_of values size)

-- how many tuples an input simplex has, and how many these have together
abbrev pub tuple_count : Family → Simplex → ℕ
tuple_count family s = length (tuples_for family s)

abbrev pub tuple_total : Family → List Simplex → ℕ
tuple_total family inputs = sum_by (λ s. length (tuples_for family s)) inputs

-- names are values of a task
abbrev pub IsFamily : Family → Type 0
IsFamily (Agreement k) = Unit {0}
IsFamily (Naming names) = names ≤ 64

-- so few values that their lists can be numbered
pub record AreFew (xs : List ℕ) : Type 0 where
  pub few : length xs ≤ 64

-- the number, unless it is above the bound
abbrev pub at_most : ℕ → ℕ → Option ℕ
at_most most n = if nat_lt most n then None else Some n

-- the simplices on the processes of this one that have any of these values
abbrev pub all_on : Simplex → List ℕ → List Simplex
all_on s values = map (zip (processes_of s)) (lists_of values (length s))

-- the tuples of all input simplices, on their processes
abbrev pub images_of : Family → List Simplex → List Simplex
images_of family inputs = flat_map (λ s. map (zip (processes_of s)) (tuples_for family s)) inputs

-- the task of a family with these inputs: its outputs are the tuples of the
-- inputs, with their faces
abbrev pub task_for : ℕ → Bool → Family → List Simplex → Task
task_for n symmetric family inputs = record {
  processes = n;
  symmetric = symmetric;
  least_block = None;
  delta = map (λ s. record { input = s; tuples = tuples_for family s }) inputs;
  outputs = complex_of (images_of family inputs);
}
