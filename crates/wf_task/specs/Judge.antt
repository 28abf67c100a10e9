-- The task that a draft lists, or its first fault: the refusals 4 to 14 and 18, in this order.
use Rattle.std.specs.Prelude.{ℕ, ◌+◌, ◌==◌, ◌&&◌, ◌||◌, nat_lt, nat_le, Bool, true, false, not, List, [], ◌∷◌, map, flat_map, length, zip, sum_by, count_by, Option, Some, None, Result, Ok, Err, if◌then◌else◌}
use Rattle.std.specs.List.{list_any, list_all, position_from}
use Rattle.std.specs.Ordering.{nat_cmp}
use Rattle.std.specs.Cmp.Lexicographic.{slice_cmp}
use Rattle.serde_json.specs.Data.{Data}
use Rattle.wf_model.specs.Lists.{in_order}
use Rattle.wf_model.specs.Limits.{most_bytes, most_inputs, most_outputs, most_tuples, most_vertices}
use Rattle.wf_model.specs.Simplex.{Simplex, processes_of, values_of, is_ascending, complex_of}
use Rattle.wf_model.specs.Task.{Task, Rule, Tuple, largest_value}
use Rattle.wf_simplex.specs.Order.{same_simplex}
use Rattle.wf_task_parse.specs.declared.fault.TaskLimit.TheVariants as limit
use Rattle.wf_task_parse.specs.declared.fault.TaskFault.{TaskFault}
use Rattle.wf_task_parse.specs.declared.fault.TaskFault.TheVariants as fault
use Rattle.wf_task_parse.specs.RawTask.{Listed, ◌>>=◌, or_fault, draft_of}
use Rattle.wf_task_parse.specs.Text.{json_of}
use Rattle.wf_task.specs.Slots.{entries_in}

-- ---- what is asked

-- a value above the largest
abbrev pub is_large : ℕ → ℕ → Bool
is_large largest x = nat_lt largest x

abbrev pub has_large : ℕ → Simplex → Bool
has_large largest s = list_any (is_large largest) (values_of s)

abbrev pub rule_has_large : ℕ → Rule → Bool
rule_has_large largest rule = has_large largest rule.input || list_any (list_any (is_large largest)) rule.tuples

-- some value in the inputs, the outputs or the entries is too large
abbrev pub has_large_at : ℕ → Listed → Bool
has_large_at largest listed = list_any (has_large largest) listed.inputs || list_any (has_large largest) listed.outputs
    || list_any (rule_has_large largest) listed.delta

abbrev pub some_large : Listed → Bool
some_large listed = has_large_at (largest_value listed.least_block) listed

-- the first block has at least 1 to 4 participants
abbrev pub is_first_block : Option ℕ → Bool
is_first_block None = true
is_first_block (Some m) = nat_le 1 m && nat_le m 4

-- the processes strictly ascend and are below n
abbrev pub names_processes : ℕ → Simplex → Bool
names_processes n s = is_ascending (processes_of s) && list_all (λ p. nat_lt p n) (processes_of s)

-- each listed simplex has processes in order, below the number of processes
abbrev pub all_processes_named : Listed → Bool
all_processes_named listed =
    list_all (names_processes listed.processes) listed.inputs && list_all (names_processes listed.processes) listed.outputs
    && list_all (λ rule. names_processes listed.processes rule.input) listed.delta

abbrev pub rule_names_processes : ℕ → Rule → Bool
rule_names_processes n rule = names_processes n rule.input

-- how many value lists the entries have together
abbrev pub tuple_total : List Rule → ℕ
tuple_total rules = sum_by (λ rule. length rule.tuples) rules

abbrev pub is_among : List Simplex → Simplex → Bool
is_among complex s = list_any (same_simplex s) complex

-- the entries for an input simplex, and their value lists
abbrev pub entries_for : Listed → Simplex → List Rule
entries_for listed s = entries_in listed.delta s

abbrev pub tuples_for : Listed → Simplex → List Tuple
tuples_for listed s = flat_map (λ rule. rule.tuples) (entries_for listed s)

-- the place of the first value list that has not as many values as the simplex has processes
abbrev pub wrong_length : Listed → Simplex → Option ℕ
wrong_length listed s = position_from (λ tuple. not (length tuple == length s)) 0 (tuples_for listed s)

-- the values on the processes of the simplex are a simplex of the complex
abbrev pub is_image_in : List Simplex → Simplex → Tuple → Bool
is_image_in complex s tuple = is_among complex (zip (processes_of s) tuple)

-- the place of the first value list that is no output simplex
abbrev pub no_output : Listed → Simplex → Option ℕ
no_output listed s = position_from (λ tuple. not (is_image_in (complex_of listed.outputs) s tuple)) 0 (tuples_for listed s)

-- the place of the first entry that is for no input simplex
abbrev pub first_stray : List Simplex → List Rule → Option ℕ
first_stray inputs rules = position_from (λ rule. not (is_among inputs rule.input)) 0 rules

-- the number of the first simplex at which f answers, with the answer
abbrev pub answer_or : Option ℕ → ℕ → Option (ℕ × ℕ) → Option (ℕ × ℕ)
answer_or (Some k) n rest = Some (n, k)
answer_or None n rest = rest

abbrev pub first_answer : (Simplex → Option ℕ) → ℕ → List Simplex → Option (ℕ × ℕ)
first_answer f n [] = None
first_answer f n (s ∷ complex) = answer_or (f s) n (first_answer f (n + 1) complex)

-- ---- the refusals

-- the refusal where the test holds; where there is a number, the refusal that carries it
abbrev pub refused_if : Bool → TaskFault → Result (Unit {0}) TaskFault
refused_if true e = Err e
refused_if false e = Ok tt

abbrev pub refused_at : {A : Type 0} → Option A → (A → TaskFault) → Result (Unit {0}) TaskFault
refused_at None e = Ok tt
refused_at (Some at) e = Err (e at)

-- 18: of the first block
abbrev pub first_block_judged : Option ℕ → Result (Unit {0}) TaskFault
first_block_judged least_block = refused_if (not (is_first_block least_block)) fault.FirstBlock

-- 4 to 7: of the listed numbers alone
unfoldable pub numbers_judged : Listed → Result (Unit {0}) TaskFault
numbers_judged listed = do
  version ← refused_if (not (listed.version == 1 || listed.version == 2)) fault.Version
  processes ← refused_if (not (nat_le 1 listed.processes && nat_le listed.processes 4)) fault.Processes
  value ← refused_if (some_large listed) fault.Value
  refused_if (not (all_processes_named listed)) fault.Colours

-- 8: of how many there are, where inputs is the input complex
unfoldable pub sizes_judged : Listed → List Simplex → Result (Unit {0}) TaskFault
sizes_judged listed inputs = do
  vertices ← refused_if (nat_lt most_vertices (count_by (λ s. length s == 1) inputs)) (fault.TooMany limit.Vertices)
  simplices ← refused_if (nat_lt most_inputs (length inputs)) (fault.TooMany limit.Simplices)
  outputs ← refused_if (nat_lt most_outputs (length listed.outputs)) (fault.TooMany limit.Outputs)
  refused_if (nat_lt most_tuples (sum_by (λ rule. length rule.tuples) listed.delta)) (fault.TooMany limit.Tuples)

-- 9 to 11: of the entries, each simplex of the input complex has one, and no other has
unfoldable pub entries_judged : Listed → List Simplex → Result (Unit {0}) TaskFault
entries_judged listed inputs = do
  missing ← refused_at (position_from (λ s. length (entries_for listed s) == 0) 0 inputs) fault.DeltaMissing
  twice ← refused_at (position_from (λ s. nat_lt 1 (length (entries_for listed s))) 0 inputs) fault.DeltaTwice
  refused_at (first_stray inputs listed.delta) fault.DeltaStray

-- 12 and 13: of the value lists
unfoldable pub tuples_judged : Listed → List Simplex → Result (Unit {0}) TaskFault
tuples_judged listed inputs = do
  long ← refused_at (first_answer (wrong_length listed) 0 inputs) (λ at. fault.OutLength at.0 at.1)
  refused_at (first_answer (no_output listed) 0 inputs) (λ at. fault.OutStray at.0 at.1)

-- ---- the task

-- the rule of an input simplex: its value lists in order, each once
abbrev pub rule_for : Listed → Simplex → Rule
rule_for listed s = record { input = s; tuples = in_order (slice_cmp nat_cmp) (tuples_for listed s) }

-- the task that a draft without a fault lists
abbrev pub drafted : Listed → Task
drafted listed = record {
  processes = listed.processes;
  symmetric = listed.symmetric;
  least_block = listed.least_block;
  delta = map (rule_for listed) (complex_of listed.inputs);
  outputs = complex_of listed.outputs;
}

unfoldable pub judged : Listed → Result Task TaskFault
judged listed = do
  numbers ← numbers_judged listed
  sizes ← sizes_judged listed (complex_of listed.inputs)
  entries ← entries_judged listed (complex_of listed.inputs)
  tuples ← tuples_judged listed (complex_of listed.inputs)
  input ← refused_if (length listed.inputs == 0) fault.NoInput
  first_block ← first_block_judged listed.least_block
  Ok (drafted listed)

-- the task of a JSON value, or the first fault
unfoldable pub task_of_json : Data → Result Task TaskFault
task_of_json d = draft_of d >>= judged

-- the task of a text, or the first fault
unfoldable pub task_of_text : List ℕ → Result Task TaskFault
task_of_text bytes =
    if nat_lt most_bytes (length bytes) then Err fault.TooLong else (or_fault fault.NotJson (json_of bytes) >>= task_of_json)
