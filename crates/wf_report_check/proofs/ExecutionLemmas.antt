-- What an execution allows, by what a program asks for.
use Rattle.std.proofs.Common.{◌≡◌, ℕ, ◌<◌, List, [], map, length, get_or, Some, option_map, slice_get, refl, sym, ap, ◌∙◌, arith}
use Rattle.std.specs.List.{slice_index_or}
use Rattle.std.proofs.lemmas.List.{length-map}
use Rattle.wf_model.specs.Simplex.{Simplex}
use Rattle.wf_model.specs.Task as task
use Rattle.wf_model.specs.Task.{Task, Tuple, inputs}
use Rattle.wf_model.specs.Problem.{problem_of}
use Rattle.wf_complex.specs.Protocol.{Built, IsProtocol}
use Rattle.wf_complex.proofs.Lemmas.{rule_inside, rule_there, constraint_there}
use Rattle.wf_report_check.specs.Places.{constraint_on}

-- by its simplex
pub execution_is : (t : Task) (r : ℕ) (b : Built) (e n : ℕ) (s : Simplex) (tuples : List Tuple) (ps : List ℕ) → IsProtocol t r b → e < length b.scopes → slice_get b.simplices e ≡ Some n
    → ps ≡ map (λ at. at.1) (slice_index_or b.scopes e []) → slice_get t.delta n ≡ Some (record { input = s; tuples = tuples })
    → (slice_get (problem_of t r).constraints e ≡ Some (constraint_on s tuples ps)) × (length ps ≡ length s)
execution_is t r b e n s tuples ps built inside on are there =
    let (rule, rule_is, k_is, long) = constraint_there t r b e n built inside on in
    let same : rule ≡ record { input = s; tuples = tuples } = cc in (
      k_is ∙ (λ i. Some (constraint_on (same i).input (same i).tuples (sym are i))),
      ap length are ∙ length-map (slice_index_or b.scopes e []) (λ (at : ℕ × ℕ). at.1) ∙ long ∙ ap (λ (rule : task.Rule). length rule.input) same,
    )

-- the same, where the simplex is read out of the inputs
pub execution_by_number : (t : Task) (r : ℕ) (b : Built) (e n : ℕ) (tuples : List Tuple) (ps : List ℕ) → IsProtocol t r b → e < length b.scopes → slice_get b.simplices e ≡ Some n
    → ps ≡ map (λ at. at.1) (slice_index_or b.scopes e []) → option_map (λ rule. rule.tuples) (slice_get t.delta n) ≡ Some tuples
    → (slice_get (problem_of t r).constraints e ≡ Some (constraint_on (get_or (inputs t) n []) tuples ps)) × (length ps ≡ length (get_or (inputs t) n []))
execution_by_number t r b e n tuples ps built inside on are there =
    let low : n < length (inputs t) = omega (arith, rule_inside t r b e n built inside on, length-map t.delta (λ (rule : task.Rule). rule.input)) in
    execution_is t r b e n (get_or (inputs t) n []) tuples ps built inside on are (rule_there t n (get_or (inputs t) n []) [] tuples refl low there)
