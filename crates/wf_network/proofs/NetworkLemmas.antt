-- An execution of a network.
use Rattle.std.proofs.Common.{◌≡◌, ◌<◌, ◌≤◌, ◌∙◌, ℕ, List, length, get_or, slice_index, refl, sym, subst}
use Rattle.std.specs.List.{slice_index_or}
use Rattle.std.proofs.lemmas.List.{get_or_default}
use Rattle.wf_network.specs.Problems.{IsNetwork, IsWithin, executions_in, no_rule, rule_in}
use Rattle.wf_network.specs.Users.{IsUser, no_execution}
use Rattle.wf_complex.specs.declared.packed.PackedExecution.{PackedExecution}
use Rattle.wf_network.specs.declared.problem.Network.{Network}
use Rattle.wf_network.proofs.ProblemLemmas.{Known}

pub execution_is : (n : Network) (e : ℕ) (x : PackedExecution) → e < length (executions_in n) → x ≡ slice_index_or (executions_in n) e x → get_or (executions_in n) e no_execution ≡ x
execution_is n e x low here = get_or_default (executions_in n) e no_execution x low ∙ sym here

pub execution_within : (n : Network) (e : ℕ) (x : PackedExecution) → IsNetwork n → e < length (executions_in n) → x ≡ slice_index_or (executions_in n) e x → IsWithin (length n.rules.items) n.points x
execution_within n e x network low here = subst (IsWithin (length n.rules.items) n.points) (execution_is n e x low here) (network.within e no_execution low)

pub execution_told : (n : Network) (e : ℕ) (x : PackedExecution) → IsNetwork n → e < length (executions_in n) → x ≡ slice_index_or (executions_in n) e x → (place : ℕ) → place < 4 → IsUser n.users (slice_index x.points place) e
execution_told n e x network low here place small = subst (λ (y : PackedExecution). IsUser n.users (slice_index y.points place) e) (execution_is n e x low here) (network.told e place low small)

-- there are four processes at most
pub few_at : (n : Network) (e : ℕ) → IsNetwork n → e < length (executions_in n) → length (rule_in n e).simplex ≤ 4
few_at n e network low = (network.processes (get_or (executions_in n) e no_execution).simplex no_rule (network.within e no_execution low).rule).narrow

-- the rule of an execution
pub rule_known : (n : Network) (e : ℕ) → IsNetwork n → e < length (executions_in n) → Known n.rules.items (get_or (executions_in n) e no_execution) (rule_in n e)
rule_known n e network low = record {
  is = refl;
  scope = refl;
  tuples = refl;
  wide = network.wide (get_or (executions_in n) e no_execution).simplex no_rule (network.within e no_execution low).rule;
}

-- its points are there
pub within_now : (n : Network) (e : ℕ) (words : List (List ℕ)) → IsNetwork n → e < length (executions_in n) → length words ≡ n.points → IsWithin (length n.rules.items) (length words) (get_or (executions_in n) e no_execution)
within_now n e words network low long = subst (λ m. IsWithin (length n.rules.items) m (get_or (executions_in n) e no_execution)) (sym long) (network.within e no_execution low)
