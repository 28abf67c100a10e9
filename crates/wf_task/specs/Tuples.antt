-- Value lists that were judged: tuples on the processes of a simplex, and rows.
use Rattle.std.specs.Prelude.{◌≡◌, ℕ, ◌<◌, ◌≤◌, List, [], All, length, slice_index_or}
use Rattle.wf_model.specs.Simplex.{Simplex}
use Rattle.std.specs.Ordering.{nat_cmp}
use Rattle.std.specs.Cmp.Lexicographic.{slice_cmp}
use Rattle.wf_model.specs.Lists.{in_order}
use Rattle.wf_model.specs.Task.{Rule, Tuple, IsTaskSimplex}
use Rattle.wf_task.specs.declared.slots.EntryCount.{EntryCount}
use Rattle.wf_task.specs.Slots.{IsOnceBelow, lists_at}
use Rattle.wf_task_parse.specs.RawTask.{Listed}
use Rattle.wf_task.specs.Judge.{tuples_for}

-- so many values, each at most 255
pub record IsTupleOf (n : ℕ) (tuple : Tuple) : Type 0 where
  pub long : length tuple ≡ n
  pub small : All (λ x. x ≤ 255) tuple

-- the value lists for each input simplex have a value for each of its processes
pub record AreTuples (listed : Listed) (inputs : List Simplex) : Type 0 where
  pub each : (i : ℕ) → i < length inputs
      → All (IsTupleOf (length (slice_index_or inputs i []))) (tuples_for listed (slice_index_or inputs i []))

-- one to four values, each at most 255
pub record IsRow (values : List ℕ) : Type 0 where
  pub some : 1 ≤ length values
  pub few : length values ≤ 4
  pub small : All (λ x. x ≤ 255) values

-- a slot that names one of the entries, whose value lists are rows
pub record NamesRows (rules : List Rule) (slot : EntryCount) : Type 0 where
  pub once : IsOnceBelow (length rules) slot
  pub rows : All IsRow (lists_at slot rules)

-- the rows of an entry: its value lists in order, each once
abbrev pub rows_at : List Rule → EntryCount → List Tuple
rows_at rules slot = in_order (slice_cmp nat_cmp) (lists_at slot rules)

-- each of the entries is for a simplex of processes below four, with values up to 255
abbrev pub HaveSmallInputs : List Rule → Type 0
HaveSmallInputs rules = All (λ rule. IsTaskSimplex rule.input) rules
