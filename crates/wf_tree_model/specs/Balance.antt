-- Balances: why a task has no decision map after any number of rounds.
--
-- Each participant of a simplex, with values for the others, gives an equation: the signed number
-- of executions in which the others decide these values is the same whether it takes part or not
-- (Sperner's lemma and the index lemma are sums of such equations). Where it is alone the other
-- side is 1. Equations have multipliers, and in the sum of all of them each tuple that the task
-- allows counts 0. So a decision map would make the other side 0, which is the sum of the
-- multipliers of vertices.
use Rattle.std.specs.Prelude.{◌≡◌, ◌<◌, ◌+◌, ◌%◌, ◌==◌, ◌&&◌, ℕ, Bool, true, All, List, length, sum_by, if◌then◌else◌}
use Rattle.std.specs.List.{remove}
use Rattle.wf_model.specs.Simplex.{Simplex}
use Rattle.wf_model.specs.Task.{Task, Tuple}
use Rattle.wf_tree_model.specs.Counting.Rules.{rule_at, same_numbers}
use Rattle.wf_tree_model.specs.Alike.{are_alike}

-- how often an equation counts: that of the input simplex with this number, of a place there, and
-- of a value for each other participant
pub record Multiplier : Type 0 where
  pub simplex : ℕ
  pub place : ℕ
  pub others : Tuple
  pub weight : ℕ

abbrev pub input_of : Task → Multiplier → Simplex
input_of t x = (rule_at t x.simplex).input

-- a place of a simplex of I, and a weight from 1 to the modulus less 1
pub record IsMultiplier (t : Task) (modulus : ℕ) (x : Multiplier) : Type 0 where
  pub listed : x.simplex < length t.delta
  pub inside : x.place < length (input_of t x)
  pub long : length x.others + 1 ≡ length (input_of t x)
  pub positive : 0 < x.weight
  pub reduced : x.weight < modulus

-- ---- what a tuple counts

-- whether the tuple of the simplex counts in the equation where the participant takes part
abbrev pub counts_with : Task → Simplex → Tuple → Multiplier → Bool
counts_with t s tuple x = are_alike t (input_of t x) s && same_numbers x.others (remove tuple x.place)

-- and on the other side, where it doesn't
abbrev pub counts_without : Task → Simplex → Tuple → Multiplier → Bool
counts_without t s tuple x = are_alike t (remove (input_of t x) x.place) s && same_numbers x.others tuple

abbrev pub weight_with : Task → List Multiplier → Simplex → Tuple → ℕ
weight_with t xs s tuple = sum_by (λ x. if counts_with t s tuple x then x.weight else 0) xs

abbrev pub weight_without : Task → List Multiplier → Simplex → Tuple → ℕ
weight_without t xs s tuple = sum_by (λ x. if counts_without t s tuple x then x.weight else 0) xs

-- whether the tuple of the simplex counts 0 in the sum of the equations
abbrev pub counts_nothing : Task → ℕ → List Multiplier → Simplex → Tuple → Bool
counts_nothing t modulus xs s tuple = weight_with t xs s tuple % modulus == weight_without t xs s tuple % modulus

-- ---- the sum of the equations

-- the sum of the other sides that are 1
abbrev pub weight_of_vertices : Task → List Multiplier → ℕ
weight_of_vertices t xs = sum_by (λ x. if length (input_of t x) == 1 then x.weight else 0) xs

-- multipliers with which each allowed tuple counts 0, but the vertices' add up to the sum
pub record IsBalance (t : Task) (modulus sum : ℕ) (xs : List Multiplier) : Type 0 where
  pub some : 0 < sum
  pub multipliers : All (IsMultiplier t modulus) xs
  pub whole : weight_of_vertices t xs % modulus ≡ sum
  pub balanced : All (λ rule. All (λ tuple. counts_nothing t modulus xs rule.input tuple ≡ true) rule.tuples) t.delta
