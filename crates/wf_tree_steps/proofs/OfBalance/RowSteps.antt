-- One step of the loop over the input simplices and their rows.
use Rattle.std.proofs.Common.{◌≡◌, ℕ, ◌+◌, ◌<◌, Bool, List, drop, get_or, length, sym, ap, ◌∙◌, subst, arith}
use Rattle.wf_model.specs.Simplex.{Simplex}
use Rattle.wf_model.specs.Task.{Rule, Task, Tuple, inputs}
use Rattle.wf_task.specs.TaskSeen.{rules_seen}
use Rattle.wf_tree_steps.specs.Balance.Judge.{rules_fault, tuples_fault, unless_fault}
use Rattle.wf_tree_steps.specs.Balance.Keys.{IsTestAt, IsTestOf, digits_code, labels}
use Rattle.wf_tree_steps.proofs.OfBalance.Inputs.{seen_at, seen_long}
use Rattle.wf_tree_steps.proofs.OfBalance.Steps.{first_left, rule_next}

module _ (t : Task) (rows : List (List Tuple)) (each : length rows ≡ length (inputs t)) (weights : ℕ → ℕ) (modulus : ℕ) (test : Simplex → Tuple → Bool) where
  abbrev rules : List Rule
  rules = rules_seen (inputs t) rows

  -- what the judgement of the rows of a place needs, and what it leaves
  pub row_step : (n : ℕ) (s : Simplex) (ys zs : List Tuple) (code : ℕ) → n < length (inputs t) → s ≡ get_or (inputs t) n s → ys ≡ get_or rows n ys → zs ≡ ys → code ≡ digits_code (labels t s) → IsTestAt t weights modulus test (drop n rules) →
      IsTestOf weights modulus code (test s) zs
      × IsTestAt t weights modulus test (drop (n + 1) rules)
      × (rules_fault test n (drop n rules) ≡ unless_fault (tuples_fault (test s) n 0 zs) (rules_fault test (n + 1) (drop (n + 1) rules)))
  row_step n s ys zs code inside is are same labelled left =
      let rule : Rule = record { input = s; tuples = ys } in
      let long = seen_long (inputs t) rows each in
      let low : n < length rules = omega (arith, inside, long) in
      let here = seen_at (inputs t) rows n s ys inside (omega (arith, inside, each)) is are in
      let first = first_left (λ (rule : Rule). IsTestOf weights modulus (digits_code (labels t rule.input)) (test rule.input) rule.tuples) rules n rule low here left in (
        subst (IsTestOf weights modulus code (test s)) (sym same) (subst (λ k. IsTestOf weights modulus k (test s) ys) (sym labelled) first.0),
        first.1,
        rule_next test rules n rule low here ∙ ap (λ l. unless_fault (tuples_fault (test s) n 0 l) (rules_fault test (n + 1) (drop (n + 1) rules))) (sym same),
      )
