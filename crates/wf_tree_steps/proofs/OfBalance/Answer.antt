-- From what the parts of the checker answer to what it answers.
use Rattle.std.proofs.Common.{◌≡◌, ℕ, ◌%◌, ◌<◌, Bool, List, length, All, None, Result, subst, sym}
use Rattle.std.proofs.lemmas.List.Elements.{All-from_recursion, recursion_from_All}
use Rattle.wf_model.specs.Simplex.{Simplex}
use Rattle.wf_model.specs.Task.{IsTask, Rule, Task, Tuple}
use Rattle.wf_tree_model.specs.Balance.{IsMultiplier, Multiplier, counts_nothing, weight_of_vertices}
use Rattle.wf_tree_steps.specs.declared.balance.fault.BalanceFault.{BalanceFault}
use Rattle.wf_tree_refine.specs.AtHand.{at_hand}
use Rattle.wf_tree_steps.specs.Balance.AtHand.{FitsInputs}
use Rattle.wf_tree_steps.specs.Balance.Judge.{Judges, balance_fault, multipliers_fault, rules_fault}
use Rattle.wf_tree_steps.specs.Balance.Keys.{IsTestAt, weight_under}
use Rattle.wf_tree_steps.proofs.OfBalance.Faults.{multipliers_if}
use Rattle.wf_tree_steps.proofs.OfBalance.Inputs.{inputs_of, seen_within}
use Rattle.wf_tree_steps.proofs.OfBalance.SameFaults as Same
use Rattle.wf_tree_steps.proofs.OfBalance.TaskKeys.{keyed, on_rules}

pub all_fit : (t : Task) (modulus : ℕ) (xs : List Multiplier) → multipliers_fault t modulus 0 xs ≡ None → All (IsMultiplier t modulus) xs
all_fit t modulus xs h = All-from_recursion (IsMultiplier t modulus) xs (multipliers_if t modulus 0 xs h)

-- after the multipliers and their sum, the answer is that of the rows
pub judged_rows : (t : Task) (rows : List (List Tuple)) (modulus sum : ℕ) (xs : List Multiplier) (weights : ℕ → ℕ) (result : Result (Unit {0}) BalanceFault) →
    IsTask t → FitsInputs t rows → 0 < sum → sum < modulus → multipliers_fault t modulus 0 xs ≡ None → weight_of_vertices t xs % modulus ≡ sum →
    ((q : ℕ) → weights q ≡ weight_under t xs q % modulus) → All (λ x. All (λ v. v < 2047) x.others) xs →
    ((test : Simplex → Tuple → Bool) → IsTestAt t weights modulus test (at_hand t rows).delta → Judges result (rules_fault test 0 (at_hand t rows).delta)) →
    Judges result (balance_fault (at_hand t rows) modulus sum xs)
judged_rows t rows modulus sum xs weights result task fits some reduced faultless whole are digits judged =
    let have = inputs_of t task in
    let rules = (at_hand t rows).delta in
    let test = counts_nothing (at_hand t rows) modulus xs in
    let keys = keyed t have modulus xs (multipliers_if t modulus 0 xs faultless) (recursion_from_All (λ (x : Multiplier). All (λ v. v < 2047) x.others) xs digits) in
    let is = on_rules t modulus xs keys weights are test (Same.counts_same t rows fits.each modulus xs) rules (seen_within t.delta rows have) (recursion_from_All (λ (rule : Rule). All (λ y. length y ≡ length rule.input) rule.tuples) rules fits.long) in
    subst (Judges result) (sym (Same.of_tuples t rows fits.each modulus sum xs some reduced faultless whole)) (judged test is)
