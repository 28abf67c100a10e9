-- The input simplex of a number, if there is one.
use Rattle.std.proofs.Common.{◌≡◌, ℕ, nat_lt, true, false, List, [], length, get_or, sym, ap, arith}
use Rattle.std.proofs.lemmas.Bool.{ltb-true, ltb-false}
use Rattle.std.proofs.lemmas.List.{get_or_past, length-map}
use Rattle.wf_model.specs.Simplex.{Simplex}
use Rattle.wf_model.specs.Task.{Rule, Task, inputs}
use Rattle.wf_tree_model.specs.Counting.Rules.{no_rule, rule_at}
use Rattle.wf_tree_steps.proofs.OfBalance.Lemmas.{input_is}

pub input_there : (t : Task) (simplices : List Simplex) (n : ℕ) (s : Simplex) → simplices ≡ inputs t → true ≡ nat_lt n (length simplices) → s ≡ get_or simplices n s → s ≡ (rule_at t n).input
input_there t simplices n s are low is =
    let inside = ltb-true n (length simplices) (sym low) in
    let same = ap length are in
    let long = length-map t.delta (λ (rule : Rule). rule.input) in
    input_is t simplices n s are (omega (arith, inside, same, long)) is

pub no_input : (t : Task) (simplices : List Simplex) (n : ℕ) → simplices ≡ inputs t → false ≡ nat_lt n (length simplices) → (rule_at t n).input ≡ []
no_input t simplices n are high =
    let past = ltb-false n (length simplices) (sym high) in
    let same = ap length are in
    let long = length-map t.delta (λ (rule : Rule). rule.input) in
    ap (λ (rule : Rule). rule.input) (get_or_past t.delta n no_rule (omega (arith, past, same, long)))
