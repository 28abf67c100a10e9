-- Tuples made for each simplex of a task at hand, within the limit of a step.
use Rattle.std.proofs.Common.{◌≡◌, ℕ, zero, suc, ◌+◌, ◌-◌, ◌<◌, ◌≤◌, List, [], ◌∷◌, flat_map, get_or, length, map, sum_by, take, inl, inr, refl, sym, ap, ◌∙◌, subst, arith}
use Rattle.std.specs.List.{AllByRecursion}
use Rattle.std.specs.Cmp.Lexicographic.{slice_cmp, nat_list_cmp_total}
use Rattle.std.specs.Ordering.{nat_cmp}
use Rattle.std.proofs.lemmas.List.Sums.{sum_by_more, sum_by_more_le}
use Rattle.std.proofs.lemmas.Map.Lookups.{exact_bytes}
use Rattle.wf_model.specs.Lists.{in_order}
use Rattle.wf_model.specs.Task.{Rule, Task, Tuple, inputs}
use Rattle.wf_simplex.proofs.Lemmas.{Has, all_of_has, flat_map-has, has-flat_map, has-in_order, has-map, in_order-in_order, length-in_order}
use Rattle.wf_tree_model.specs.Counting.Rules.{no_rule, rule_at}
use Rattle.wf_tree_model.specs.Trees.{largest, new_name}
use Rattle.wf_tree_model.specs.Tuples.{choices_of}
use Rattle.wf_tree_model.proofs.Lemmas.{from_each}
use Rattle.wf_tree_refine.specs.AtHand.{IsAtHand, IsRuleAtHand, at_hand}
use Rattle.wf_tree_refine.specs.Limits.{tuples_made}
use Rattle.wf_tree_refine.specs.Near.{most_at_hand}
use Rattle.wf_tree_refine.proofs.CaseSteps.{length-rules_seen, rule_seen, rule_with, rules_good}

-- ---- values are below the first new name

has_largest : (x : ℕ) (xs : List ℕ) → Has x xs → x ≤ largest xs
has_largest x [] h = absurd h
has_largest x (y ∷ ys) (inl e) = omega (arith, e)
has_largest x (y ∷ ys) (inr h) = let low = has_largest x ys h in omega (arith, low)

pub element_has : {X : Type 0} (xs : List X) (i : ℕ) (d : X) → i < length xs → Has (get_or xs i d) xs
element_has [] i d low = absurd (let bad : ⊥ = omega (arith, low) in bad)
element_has (x ∷ xs) zero d low = inl refl
element_has (x ∷ xs) (suc i) d low = inr (element_has xs i d (omega (arith, low)))

values_below : (t : Task) (rule : Rule) → Has rule t.delta → AllByRecursion (AllByRecursion (λ x. x < new_name t)) rule.tuples
values_below t rule listed = from_each (AllByRecursion (λ x. x < new_name t)) rule.tuples (λ tuple there. from_each (λ x. x < new_name t) tuple (λ x here.
    let low = has_largest x (flat_map (λ r. flat_map (λ u. u) r.tuples) t.delta) (flat_map-has (λ (r : Rule). flat_map (λ u. u) r.tuples) x rule t.delta listed (flat_map-has (λ (u : Tuple). u) x tuple rule.tuples there here)) in
    omega (arith, low)))

pub rule_below : (t : Task) (i : ℕ) → i < length t.delta → AllByRecursion (AllByRecursion (λ x. x < new_name t)) (rule_at t i).tuples
rule_below t i low = values_below t (rule_at t i) (element_has t.delta i no_rule low)

-- ---- tuples of one length

pub choices_long : (f : ℕ → ℕ → List ℕ) (ps : List ℕ) (row u : Tuple) → length row ≡ length ps → Has u (choices_of f ps row) → length u ≡ length ps
choices_long f [] row u long (inl e) = ap length (sym e)
choices_long f [] row u long (inr h) = absurd h
choices_long f (p ∷ ps) [] u long h = absurd (let bad : ⊥ = omega (arith, long) in bad)
choices_long f (p ∷ ps) (x ∷ xs) u long h =
    let one = has-flat_map (λ z. map (λ rest. z ∷ rest) (choices_of f ps xs)) u (f p x) h in
    let two = has-map (λ rest. one.0 ∷ rest) u (choices_of f ps xs) one.2 in
    ap length (sym two.2) ∙ ap suc (choices_long f ps xs two.0 (omega (arith, long)) two.1)

-- ---- at hand

made_good : (rule : Rule) (made : List Tuple) → length made ≤ most_at_hand → ((u : Tuple) → Has u made → length u ≡ length rule.input) → IsRuleAtHand (rule_with rule.input (in_order (slice_cmp nat_cmp) made))
made_good rule made few long = record {
  ascending = in_order-in_order (slice_cmp nat_cmp) nat_list_cmp_total exact_bytes made;
  long = all_of_has (λ u. length u ≡ length rule.input) (in_order (slice_cmp nat_cmp) made) (λ u h. long u (has-in_order (slice_cmp nat_cmp) nat_list_cmp_total exact_bytes u made h));
  few = (let less = length-in_order (slice_cmp nat_cmp) made in omega (arith, less, few));
}

-- what a step makes within its limit is at hand
pub step_at_hand : (t : Task) (rows found : List (List Tuple)) (f : Rule → List Tuple) → IsAtHand t rows → length found ≡ length (inputs t)
    → ((i : ℕ) → i < length (inputs t) → get_or found i [] ≡ in_order (slice_cmp nat_cmp) (f (rule_at (at_hand t rows) i)))
    → tuples_made f (at_hand t rows) ≤ most_at_hand
    → ((i : ℕ) → i < length (inputs t) → (u : Tuple) → Has u (f (rule_at (at_hand t rows) i)) → length u ≡ length (rule_at (at_hand t rows) i).input)
    → IsAtHand t found
step_at_hand t rows found f h made is few long = record {
  each = made;
  rules = rules_good (inputs t) found made (λ i low.
      let each = h.each in
      let rule = rule_at (at_hand t rows) i in
      let count = length-rules_seen (inputs t) rows each in
      let small : length (f rule) ≤ most_at_hand = each_few f most_at_hand (at_hand t rows).delta few i (omega (arith, low, count)) in
      let good = made_good rule (f rule) small (long i low) in
      let input : rule.input ≡ get_or (inputs t) i [] = ap (λ r. r.input) (rule_seen (inputs t) rows i each low) in
      subst (λ s. IsRuleAtHand (rule_with s (get_or found i []))) input (subst (λ xs. IsRuleAtHand (rule_with rule.input xs)) (sym (is i low)) good));
}
  where
    each_few : (g : Rule → List Tuple) (m : ℕ) (rules : List Rule) → sum_by (λ rule. length (g rule)) rules ≤ m → (k : ℕ) → k < length rules → length (g (get_or rules k no_rule)) ≤ m
    each_few g m rules few k low = let part = sum_by_more_le (λ rule. length (g rule)) rules k no_rule low in omega (arith, part, few)

-- ---- the limit

-- with one simplex more
pub left_after : (f : Rule → List Tuple) (t : Task) (i left made : ℕ) → i < length t.delta → made ≡ length (f (rule_at t i)) → made ≤ left
    → left + sum_by (λ rule. length (f rule)) (take i t.delta) ≡ most_at_hand → (left - made) + sum_by (λ rule. length (f rule)) (take (i + 1) t.delta) ≡ most_at_hand
left_after f t i left made low is within so_far = let more = sum_by_more (λ rule. length (f rule)) t.delta i no_rule low in omega (arith, more, is, within, so_far)

-- what is left is too little for one simplex
pub left_short : (f : Rule → List Tuple) (t : Task) (i left : ℕ) → i < length t.delta → left < length (f (rule_at t i)) → left + sum_by (λ rule. length (f rule)) (take i t.delta) ≡ most_at_hand → most_at_hand < tuples_made f t
left_short f t i left low short so_far = let part = sum_by_more_le (λ rule. length (f rule)) t.delta i no_rule low in omega (arith, part, short, so_far)
