-- The tuples that a task has at first.
use Rattle.std.proofs.Common.{◌≡◌, ℕ, zero, suc, ◌<◌, ◌≤◌, List, [], ◌∷◌, All, Some, get_or, length, map, sum_by, refl, sym, ap, ◌∙◌, subst, arith}
use Rattle.std.specs.Option.{option_map}
use Rattle.std.proofs.lemmas.List.{length-map}
use Rattle.std.proofs.lemmas.List.Sums.{sum_by-cons}
use Rattle.std.proofs.lemmas.Option.{slice_get-get_or}
use Rattle.wf_model.specs.Task.{IsTask, Rule, Task, Tuple}
use Rattle.wf_task.specs.TaskSeen.{rules_seen, tuples_at}
use Rattle.wf_task.proofs.Lemmas.{inner}
use Rattle.wf_tree_model.specs.Counting.Rules.{no_rule}
use Rattle.wf_tree_refine.specs.AtHand.{IsAtHand, IsRuleAtHand, at_hand}

pub tuples_here : (t : Task) (i : ℕ) (rows : List Tuple) → i < length t.delta → tuples_at t i ≡ Some rows → rows ≡ (get_or t.delta i no_rule).tuples
tuples_here t i rows low is = sym (inner (sym (ap (option_map (λ rule. rule.tuples)) (slice_get-get_or t.delta i no_rule low)) ∙ is))

all_seen : (rules : List Rule) (rows : List (List Tuple)) → length rows ≡ length rules → ((i : ℕ) → i < length rules → get_or rows i [] ≡ (get_or rules i no_rule).tuples) → rules_seen (map (λ rule. rule.input) rules) rows ≡ rules
all_seen [] rows e h = refl
all_seen (r ∷ rules) [] e h = absurd (let bad : ⊥ = omega (arith, e) in bad)
all_seen (r ∷ rules) (q ∷ rows) e h =
    let first : q ≡ r.tuples = h 0 (omega arith) in
    let rest = all_seen rules rows (omega (arith, e)) (λ i low. h (suc i) (omega (arith, low))) in
    λ j. record { input = r.input; tuples = first j } ∷ rest j

pub same_task : (t : Task) (rows : List (List Tuple)) → length rows ≡ length t.delta → ((i : ℕ) → i < length t.delta → get_or rows i [] ≡ (get_or t.delta i no_rule).tuples) → at_hand t rows ≡ t
same_task t rows e h =
    let delta = all_seen t.delta rows e h in
    λ j. record { processes = t.processes; symmetric = t.symmetric; least_block = t.least_block; delta = delta j; outputs = t.outputs }

each_small : (m : ℕ) (rules : List Rule) → sum_by (λ rule. length rule.tuples) rules ≤ m → (k : ℕ) (d : Rule) → k < length rules → length (get_or rules k d).tuples ≤ m
each_small m [] few k d low = absurd (let bad : ⊥ = omega (arith, low) in bad)
each_small m (r ∷ rules) few zero d low = let e = sum_by-cons (λ rule. length rule.tuples) r rules in omega (arith, few, e)
each_small m (r ∷ rules) few (suc k) d low = let e = sum_by-cons (λ rule. length rule.tuples) r rules in each_small m rules (omega (arith, few, e)) k d (omega (arith, low))

pub first_at_hand : (t : Task) (rows : List (List Tuple)) → IsTask t → length rows ≡ length t.delta → ((i : ℕ) → i < length t.delta → get_or rows i [] ≡ (get_or t.delta i no_rule).tuples) → IsAtHand t rows
first_at_hand t rows is e h = record {
  each = e ∙ sym (length-map t.delta (λ rule. rule.input));
  rules = subst (λ u. All IsRuleAtHand u.delta) (sym (same_task t rows e h)) (λ k d low.
      let rule = is.decision.rules k d low in
      let few = each_small 65536 t.delta is.limits.tuples k d low in
      record { ascending = rule.ascending; long = rule.long; few = omega (arith, few) });
}
