-- The input simplices of a task, and those of a task at hand.
use Rattle.std.proofs.Common.{◌≡◌, ℕ, zero, suc, ◌+◌, ◌<◌, ◌≤◌, nat_lt, true, List, [], ◌∷◌, map, get_or, length, Option, None, Some, refl, ap, ◌∙◌, arith}
use Rattle.std.specs.List.{AllByRecursion}
use Rattle.std.proofs.lemmas.Bool.{and_parts, ltb-true}
use Rattle.std.proofs.lemmas.List.{get_or-map, length-map}
use Rattle.std.proofs.lemmas.List.Elements.{recursion_from_All}
use Rattle.wf_model.specs.Simplex.{Simplex, is_ascending, is_nonempty, processes_of, values_of}
use Rattle.wf_model.specs.Task.{IsSimplexWithin, IsTask, IsTaskSimplex, Rule, Task, Tuple, inputs, largest_value}
use Rattle.wf_model.proofs.Lemmas.{each_of_map, inputs_within}
use Rattle.wf_tree_model.specs.Counting.Rules.{no_rule, rule_at}
use Rattle.wf_task.specs.TaskSeen.{rules_seen}
use Rattle.wf_tree_refine.specs.AtHand.{at_hand}

abbrev pub HaveInputs : List Rule → Type 0
HaveInputs rules = AllByRecursion (λ rule. IsTaskSimplex rule.input) rules

-- ---- simplices within limits

few_from : (a : ℕ) (xs : List ℕ) (n : ℕ) → is_ascending (a ∷ xs) ≡ true → AllByRecursion (λ p. p < n) (a ∷ xs) → a + length (a ∷ xs) ≤ n
few_from a [] n up below = let low = below.0 in omega (arith, low)
few_from a (b ∷ xs) n up below =
    let parts = and_parts (nat_lt a b) (is_ascending (b ∷ xs)) up in
    let rest = few_from b xs n parts.1 below.1 in
    let less = ltb-true a b parts.0 in
    omega (arith, rest, less)

few_ascending : (xs : List ℕ) → is_ascending xs ≡ true → AllByRecursion (λ p. p < 4) xs → length xs ≤ 4
few_ascending [] up below = omega arith
few_ascending (a ∷ xs) up below = let few = few_from a xs 4 up below in omega (arith, few)

pub few_in : (s : Simplex) → IsTaskSimplex s → length s ≤ 4
few_in s is =
    let parts = and_parts (is_nonempty s) (is_ascending (processes_of s)) is.is_simplex in
    let few = few_ascending (processes_of s) parts.1 (recursion_from_All (λ p. p < 4) (processes_of s) is.processes) in
    let e : length (processes_of s) ≡ length s = length-map s (λ v. v.0) in
    omega (arith, few, e)

-- ---- those of a task

small_value : (block : Option ℕ) (x : ℕ) → x ≤ largest_value block → x ≤ 255
small_value None x low = omega (arith, low)
small_value (Some m) x low = low

pub inputs_of : (t : Task) → IsTask t → HaveInputs t.delta
inputs_of t task = each t.delta (each_of_map (IsSimplexWithin t.processes (largest_value t.least_block)) (λ rule. rule.input) t.delta (recursion_from_All _ (inputs t) (inputs_within t task)))
  where
    each : (rules : List Rule) → AllByRecursion (λ rule. IsSimplexWithin t.processes (largest_value t.least_block) rule.input) rules → HaveInputs rules
    each [] h = tt
    each (rule ∷ rules) h =
        let few = task.limits.processes in (
          record {
            is_simplex = h.0.is_simplex;
            processes = λ i d inside. (let low = h.0.processes i d inside in omega (arith, low, few));
            values = λ i d inside. small_value t.least_block (get_or (values_of rule.input) i d) (h.0.values i d inside);
          },
          each rules h.1,
        )

pub input_within : (t : Task) → HaveInputs t.delta → (n : ℕ) → n < length t.delta → IsTaskSimplex (rule_at t n).input
input_within t have n listed = at t.delta have n listed
  where
    at : (rules : List Rule) → HaveInputs rules → (n : ℕ) → n < length rules → IsTaskSimplex (get_or rules n no_rule).input
    at [] h n low = absurd (let bad : ⊥ = omega (arith, low) in bad)
    at (rule ∷ rules) h zero low = h.0
    at (rule ∷ rules) h (suc n) low = at rules h.1 n (omega (arith, low))

pub input_is : (t : Task) (simplices : List Simplex) (n : ℕ) (simplex : Simplex) → simplices ≡ inputs t → n < length t.delta → simplex ≡ get_or simplices n simplex → simplex ≡ (rule_at t n).input
input_is t simplices n simplex are listed here = here ∙ ap (λ ss. get_or ss n simplex) are ∙ get_or-map (λ rule. rule.input) t.delta n no_rule simplex listed

pub listed_inside : (t : Task) (simplices : List Simplex) (n : ℕ) → simplices ≡ inputs t → n < length t.delta → n < length simplices
listed_inside t simplices n are listed = let e = ap length are in let l = length-map t.delta (λ rule. rule.input) in omega (arith, e, l, listed)

-- ---- those of a task at hand

pub seen_within : (rules : List Rule) (rows : List (List Tuple)) → HaveInputs rules → HaveInputs (rules_seen (map (λ rule. rule.input) rules) rows)
seen_within [] rows h = tt
seen_within (rule ∷ rules) [] h = tt
seen_within (rule ∷ rules) (ys ∷ rows) h = (h.0, seen_within rules rows h.1)

pub seen_long : (ss : List Simplex) (rows : List (List Tuple)) → length rows ≡ length ss → length (rules_seen ss rows) ≡ length ss
seen_long [] rows e = refl
seen_long (s ∷ ss) [] e = absurd (let bad : ⊥ = omega (arith, e) in bad)
seen_long (s ∷ ss) (ys ∷ rows) e = ap suc (seen_long ss rows (omega (arith, e)))

seen_input : (rules : List Rule) (rows : List (List Tuple)) (n : ℕ) → length rows ≡ length (map (λ (rule : Rule). rule.input) rules) → (get_or (rules_seen (map (λ rule. rule.input) rules) rows) n no_rule).input ≡ (get_or rules n no_rule).input
seen_input [] rows zero e = refl
seen_input [] rows (suc n) e = refl
seen_input (rule ∷ rules) [] n e = absurd (let bad : ⊥ = omega (arith, e) in bad)
seen_input (rule ∷ rules) (ys ∷ rows) zero e = refl
seen_input (rule ∷ rules) (ys ∷ rows) (suc n) e = seen_input rules rows n (omega (arith, e))

pub input_same : (t : Task) (rows : List (List Tuple)) (n : ℕ) → length rows ≡ length (inputs t) → (rule_at (at_hand t rows) n).input ≡ (rule_at t n).input
input_same t rows n e = seen_input t.delta rows n e

-- the rule of a place has the simplex and the tuples of this place
pub seen_at : (ss : List Simplex) (rows : List (List Tuple)) (n : ℕ) (s : Simplex) (ys : List Tuple) → n < length ss → n < length rows → s ≡ get_or ss n s → ys ≡ get_or rows n ys →
    record { input = s; tuples = ys } ≡ get_or (rules_seen ss rows) n (record { input = s; tuples = ys })
seen_at [] rows n s ys low less is are = absurd (let bad : ⊥ = omega (arith, low) in bad)
seen_at (u ∷ ss) [] n s ys low less is are = absurd (let bad : ⊥ = omega (arith, less) in bad)
seen_at (u ∷ ss) (zs ∷ rows) zero s ys low less is are = cc
seen_at (u ∷ ss) (zs ∷ rows) (suc n) s ys low less is are = seen_at ss rows n s ys (omega (arith, low)) (omega (arith, less)) is are
