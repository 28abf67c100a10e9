-- Decision tasks (Herlihy and Shavit 1999).
use Rattle.std.specs.Prelude.{◌≡◌, ◌<◌, ◌≤◌, ℕ, Bool, true, List, map, flat_map, zip, length, count_by, sum_by, ◌==◌, Option, None, Some, unwrap_or, All, Contains}
use Rattle.std.specs.List.{AllByRecursion}
use Rattle.std.specs.Ordering.{nat_cmp}
use Rattle.std.specs.Cmp.Lexicographic.{slice_cmp}
use Rattle.wf_model.specs.Lists.{in_order, has}
use Rattle.wf_model.specs.Limits.{most_processes, most_value, most_plain_value, most_vertices, most_inputs, most_tuples}
use Rattle.wf_model.specs.Simplex.{Simplex, processes_of, values_of, is_simplex, complex_of}

-- the values of a tuple, by ascending process
abbrev pub Tuple : Type 0
Tuple = List ℕ

-- Delta at one input simplex: the output tuples on its processes, ascending
pub record Rule : Type 0 where
  pub input : Simplex
  pub tuples : List Tuple

-- A task (I, O, Delta): a rule for each simplex of I in order, and the simplices of O in order. In
-- a symmetric task protocols are comparison-based: processes may compare their numbers, and use
-- them in no other way.
pub record Task : Type 0 where
  pub processes : ℕ
  pub symmetric : Bool
  pub least_block : Option ℕ  -- how many the first block of a word has at least; none where all words are allowed
  pub delta : List Rule
  pub outputs : List Simplex

abbrev pub inputs : Task → List Simplex
inputs t = map (λ rule. rule.input) t.delta

abbrev pub first_block : Task → ℕ
first_block t = unwrap_or t.least_block 1

-- the values that occur in O, ascending
abbrev pub values : Task → List ℕ
values t = in_order nat_cmp (flat_map values_of t.outputs)

-- each value of a tuple occurs in O
abbrev pub HasListedValues : Task → Type 0
HasListedValues t =
    AllByRecursion (λ rule. AllByRecursion (λ tuple. AllByRecursion (λ x. has (values t) x ≡ true) tuple) rule.tuples) t.delta

-- ---- what every task that was read or made has

-- a simplex on processes below n
pub record IsSimplexOn (n : ℕ) (s : Simplex) : Type 0 where
  pub is_simplex : is_simplex s ≡ true
  pub processes : All (λ p. p < n) (processes_of s)

-- simplices on processes below n, in order, each once, with all their faces
pub record IsComplexOn (n : ℕ) (complex : List Simplex) : Type 0 where
  pub is_complex : complex_of complex ≡ complex
  pub on : All (IsSimplexOn n) complex

-- tuples ascending, each once, and each a simplex of O on the processes of the input
pub record IsRule (outputs : List Simplex) (rule : Rule) : Type 0 where
  pub ascending : in_order (slice_cmp nat_cmp) rule.tuples ≡ rule.tuples
  pub long : All (λ tuple. length tuple ≡ length rule.input) rule.tuples
  pub listed : All (λ tuple. Contains outputs (zip (processes_of rule.input) tuple)) rule.tuples

-- I and O are complexes on the processes, and Delta takes each simplex of I
-- to simplices of O on its processes
pub record IsDecisionTask (t : Task) : Type 0 where
  pub some_process : 0 < t.processes
  pub input_complex : IsComplexOn t.processes (inputs t)
  pub output_complex : IsComplexOn t.processes t.outputs
  pub rules : All (IsRule t.outputs) t.delta

-- the largest value that a task may have
abbrev pub largest_value : Option ℕ → ℕ
largest_value None = most_plain_value
largest_value (Some m) = most_value

abbrev pub IsFirstBlock : Option ℕ → Type 0
IsFirstBlock None = Unit {0}
IsFirstBlock (Some m) = (1 ≤ m) × (m ≤ most_processes)

abbrev pub HasValuesUpTo : ℕ → Simplex → Type 0
HasValuesUpTo largest s = All (λ x. x ≤ largest) (values_of s)

-- what a text of a task may ask for
pub record IsWithinTextLimits (t : Task) : Type 0 where
  pub processes : t.processes ≤ most_processes
  pub first_block : IsFirstBlock t.least_block
  pub input_values : All (HasValuesUpTo (largest_value t.least_block)) (inputs t)
  pub output_values : All (HasValuesUpTo (largest_value t.least_block)) t.outputs
  pub some_input : 0 < length t.delta
  pub vertices : count_by (λ s. length s == 1) (inputs t) ≤ most_vertices
  pub inputs : length t.delta ≤ most_inputs
  pub tuples : sum_by (λ rule. length rule.tuples) t.delta ≤ most_tuples

pub record IsTask (t : Task) : Type 0 where
  pub decision : IsDecisionTask t
  pub limits : IsWithinTextLimits t

-- ---- simplices within limits

-- a simplex on processes below n, its values at most the largest
pub record IsSimplexWithin (n largest : ℕ) (s : Simplex) : Type 0 where
  pub is_simplex : is_simplex s ≡ true
  pub processes : All (λ p. p < n) (processes_of s)
  pub values : All (λ x. x ≤ largest) (values_of s)

-- a simplex that some task may have
abbrev pub IsTaskSimplex : Simplex → Type 0
IsTaskSimplex = IsSimplexWithin most_processes most_value

-- simplices in order, each once, with all their faces
pub record IsComplexWithin (n largest : ℕ) (complex : List Simplex) : Type 0 where
  pub is_complex : complex_of complex ≡ complex
  pub within : All (IsSimplexWithin n largest) complex
