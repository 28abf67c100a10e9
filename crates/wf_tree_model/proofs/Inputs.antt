-- What laws ask of the inputs of a task, which refined tasks share.
use Rattle.std.proofs.Common.{◌≡◌, ℕ, ◌≤◌, true, false, List, [], ◌∷◌, map, length, Contains, sym, ap, subst, refl, arith}
use Rattle.std.specs.List.{AllByRecursion}
use Rattle.std.proofs.lemmas.Bool.{and_parts}
use Rattle.std.proofs.lemmas.List.{length-map}
use Rattle.std.proofs.lemmas.List.Elements.{recursion_from_All}
use Rattle.wf_model.specs.Limits.{most_processes}
use Rattle.wf_model.specs.Simplex.{is_ascending, is_nonempty, is_simplex, processes_of}
use Rattle.wf_model.specs.Task.{IsComplexOn, IsSimplexOn, IsTask, Rule, Task, Tuple, first_block, inputs}
use Rattle.wf_model.proofs.Lemmas.{each_of_map}
use Rattle.wf_tree_model.proofs.OfCounting.Lemmas.{long_between, processes_ascend, Between, contained}
use Rattle.wf_tree_model.specs.Refined.{allowing, with_tuples}

-- I is a complex of few processes
pub record HasInputComplex (t : Task) : Type 0 where
  pub few : t.processes ≤ most_processes
  pub complex : IsComplexOn t.processes (inputs t)

pub has_input_complex : (t : Task) → IsTask t → HasInputComplex t
has_input_complex t task = record { few = task.limits.processes; complex = task.decision.input_complex }

-- a refined task has the same inputs
pub refined : (t : Task) (tuples : Rule → List Tuple) → HasInputComplex t → HasInputComplex (allowing tuples t)
refined t tuples fit = record { few = fit.few; complex = subst (IsComplexOn t.processes) (sym (same t.delta)) fit.complex }
  where
    same : (delta : List Rule) → map (λ rule. rule.input) (map (with_tuples tuples) delta) ≡ map (λ rule. rule.input) delta
    same [] = refl
    same (rule ∷ delta) = ap (λ ss. rule.input ∷ ss) (same delta)

-- the processes of an input ascend
pub input_ascends : (t : Task) → HasInputComplex t → (rule : Rule) → Contains t.delta rule → (is_simplex rule.input ≡ true) × Between 0 (processes_of rule.input) t.processes
input_ascends t fit rule there =
    let s = rule.input in
    let is = contained (λ q. IsSimplexOn t.processes q.input) t.delta rule (each_of_map (IsSimplexOn t.processes) (λ q. q.input) t.delta (recursion_from_All _ (inputs t) fit.complex.on)) there in
    let parts = and_parts (is_nonempty s) (is_ascending (processes_of s)) is.is_simplex in
    (is.is_simplex, processes_ascend 0 (processes_of s) t.processes (omega arith) parts.1 (recursion_from_All _ (processes_of s) is.processes) (each_low (processes_of s)))
  where
    each_low : (ps : List ℕ) → AllByRecursion (λ p. 0 ≤ p) ps
    each_low [] = tt
    each_low (p ∷ ps) = (omega arith, each_low ps)

-- a simplex of I in a task that is not symmetric, where all words are allowed
pub record Setting (t : Task) (rule : Rule) : Type 0 where
  pub by_process : t.symmetric ≡ false
  pub all_words : first_block t ≡ 1
  pub simplex : is_simplex rule.input ≡ true
  pub few : length rule.input ≤ most_processes

pub input_small : (t : Task) → HasInputComplex t → (rule : Rule) → Contains t.delta rule → length rule.input ≤ most_processes
input_small t fit rule there =
    let few = fit.few in
    let l = long_between 0 (processes_of rule.input) t.processes (input_ascends t fit rule there).1 in
    let e : length (processes_of rule.input) ≡ length rule.input = length-map rule.input (λ v. v.0) in
    omega (arith, few, l, e)

pub setting : (t : Task) → HasInputComplex t → first_block t ≡ 1 → t.symmetric ≡ false → (rule : Rule) → Contains t.delta rule → Setting t rule
setting t fit words plain rule there = record {
  by_process = plain;
  all_words = words;
  simplex = (input_ascends t fit rule there).0;
  few = input_small t fit rule there;
}
