-- Decision maps after a round more.
use Rattle.std.proofs.Common.{◌≡◌, ℕ, zero, suc, ◌+◌, ◌<◌, true, List, [], ◌∷◌, ◌++◌, map, flat_map, fold, length, slice_index, All, Contains, refl, sym, ap, ◌∙◌, subst, arith}
use Rattle.std.specs.List.{AllByRecursion}
use Rattle.std.proofs.lemmas.Bool.{and_parts}
use Rattle.std.proofs.lemmas.List.{length-map}
use Rattle.std.proofs.lemmas.List.Elements.{recursion_from_All, All-from_recursion}
use Rattle.wf_model.specs.Lists.{lists_of}
use Rattle.wf_model.specs.Simplex.{Simplex, is_simplex, is_nonempty, is_ascending, processes_of}
use Rattle.wf_model.specs.Word.{Word, words}
use Rattle.wf_model.specs.Task.{Task, Rule, IsTask, IsSimplexWithin, inputs, first_block, largest_value}
use Rattle.wf_model.specs.View.{View, base_views, round, same_view}
use Rattle.wf_model.specs.Execution.{executions, executions_on, last_views}
use Rattle.wf_model.specs.Points.{class, execution_points, points}
use Rattle.wf_model.specs.DecisionMap.{IsDecisionMap, HasNoDecisionMap, listed}
use Rattle.wf_model.specs.Problem.{IsSolution, problem_of, number_of, map_by_number}
use Rattle.wf_model.proofs.Lemmas.{Among, weaker, value_at_number, number_below, classes_are_points, listed_solves, solution_decides, each_flat, each_map, each_of_map, each_distinct, both, Ascends, ascends_from, inputs_within, words_long, base_processes}
use Rattle.wf_report_trim.specs.Lift.{own_before, point_before, lifted, lifted_by, numbers_before, lifted_list}
use Rattle.wf_report_trim.proofs.OwnViews.{Stands, stands_after, before_round}

-- ---- all over joined lists, and back

left_of_append : {X : Type 0} (P : X → Type 0) (xs ys : List X) → AllByRecursion P (xs ++ ys) → AllByRecursion P xs
left_of_append P [] ys h = tt
left_of_append P (x ∷ xs) ys h = (h.0, left_of_append P xs ys h.1)

right_of_append : {X : Type 0} (P : X → Type 0) (xs ys : List X) → AllByRecursion P (xs ++ ys) → AllByRecursion P ys
right_of_append P [] ys h = h
right_of_append P (x ∷ xs) ys h = right_of_append P xs ys h.1

each_of_flat : {X Y : Type 0} (P : X → Type 0) (f : Y → List X) (ys : List Y) → AllByRecursion P (flat_map f ys) → AllByRecursion (λ y. AllByRecursion P (f y)) ys
each_of_flat P f [] h = tt
each_of_flat P f (y ∷ ys) h = (left_of_append P (f y) (flat_map f ys) h, each_of_flat P f ys (right_of_append P (f y) (flat_map f ys) h))

pub map_twice : {X Y Z : Type 0} (g : Y → Z) (f : X → Y) (xs : List X) → map g (map f xs) ≡ map (λ x. g (f x)) xs
map_twice g f [] = refl
map_twice g f (x ∷ xs) = ap (λ ys. g (f x) ∷ ys) (map_twice g f xs)

-- ---- from the executions of r rounds to those of r + 1

pub stands_at_first : (s : Simplex) → is_simplex s ≡ true → Stands (length s) (base_views s)
stands_at_first s simplex = record {
  long = length-map s _;
  ascends = subst Ascends (sym (base_processes s)) (ascends_from (processes_of s) (and_parts (is_nonempty s) (is_ascending (processes_of s)) simplex).1);
}

module _ (t : Task) (Before After : List View → Type 0) (step : (old new : List View) → map (point_before t) (map (class t) new) ≡ map (class t) old → Before old → After new) where
  each_word_more : (n : ℕ) (all : List Word) (r : ℕ) (old : List View) → AllByRecursion (λ w. length w ≡ n) all → Stands n old →
      AllByRecursion (λ ws. Before (fold round old ws)) (lists_of all r) → AllByRecursion (λ ws. After (fold round old ws)) (lists_of all (suc r))
  each_word_more n all zero old long stands h =
      each_flat (λ ws. After (fold round old ws)) (λ w. map (λ rest. w ∷ rest) ([] ∷ [])) all
      (weaker (λ w. length w ≡ n) (λ w. AllByRecursion (λ ws. After (fold round old ws)) (map (λ rest. w ∷ rest) ([] ∷ [])))
      (λ w is. (step old (round old w) (before_round t w old (is ∙ sym stands.long) stands.ascends) h.0, tt)) all long)
  each_word_more n all (suc r) old long stands h =
      each_flat (λ ws. After (fold round old ws)) (λ w. map (λ rest. w ∷ rest) (lists_of all (suc r))) all
      (both (λ w. length w ≡ n) (λ w. AllByRecursion (λ ws. Before (fold round old ws)) (map (λ rest. w ∷ rest) (lists_of all r)))
      (λ w. AllByRecursion (λ ws. After (fold round old ws)) (map (λ rest. w ∷ rest) (lists_of all (suc r))))
      (λ w is had. each_map (λ ws. After (fold round old ws)) (λ rest. w ∷ rest) (lists_of all (suc r))
      (each_word_more n all r (round old w) long (stands_after n w old is stands)
      (each_of_map (λ ws. Before (fold round old ws)) (λ rest. w ∷ rest) (lists_of all r) had)))
      all long (each_of_flat (λ ws. Before (fold round old ws)) (λ w. map (λ rest. w ∷ rest) (lists_of all r)) all h))

-- what holds of the last views of each execution, and is handed on to those that have them before
each_round_more : (t : Task) (r : ℕ) (Before After : Rule → List View → Type 0) →
    ((rule : Rule) (old new : List View) → map (point_before t) (map (class t) new) ≡ map (class t) old → Before rule old → After rule new) →
    IsTask t → AllByRecursion (λ e. Before e.rule (last_views e)) (executions t r) → AllByRecursion (λ e. After e.rule (last_views e)) (executions t (suc r))
each_round_more t r Before After step task h =
    each_flat (λ e. After e.rule (last_views e)) (executions_on (first_block t) (suc r)) t.delta
    (both (λ (rule : Rule). IsSimplexWithin t.processes (largest_value t.least_block) rule.input) (λ rule. AllByRecursion (λ e. Before e.rule (last_views e)) (executions_on (first_block t) r rule))
    (λ rule. AllByRecursion (λ e. After e.rule (last_views e)) (executions_on (first_block t) (suc r) rule))
    (λ rule simplex had.
    let n = length rule.input in
    each_map (λ e. After e.rule (last_views e)) (λ ws. record { rule = rule; words = ws }) (lists_of (words (first_block t) n) (suc r))
    (each_word_more t (Before rule) (After rule) (step rule) n (words (first_block t) n) r (base_views rule.input) (words_long (first_block t) n) (stands_at_first rule.input simplex.is_simplex)
    (each_of_map (λ e. Before e.rule (last_views e)) (λ ws. record { rule = rule; words = ws }) (lists_of (words (first_block t) n) r) had)))
    t.delta
    (each_of_map (IsSimplexWithin t.processes (largest_value t.least_block)) (λ rule. rule.input) t.delta (recursion_from_All _ (inputs t) (inputs_within t task)))
    (each_of_flat (λ e. Before e.rule (last_views e)) (executions_on (first_block t) r) t.delta h))

-- ---- the laws

pub lifts : (t : Task) (r : ℕ) (m : View → ℕ) → IsTask t → IsDecisionMap t r m → IsDecisionMap t (suc r) (lifted t m)
lifts t r m task decides =
    All-from_recursion _ (executions t (suc r))
    (each_round_more t r (λ rule vs. Contains rule.tuples (map m (map (class t) vs))) (λ rule vs. Contains rule.tuples (map (lifted t m) (map (class t) vs)))
    (λ rule old new same allowed. subst (Contains rule.tuples) (ap (map m) (sym same) ∙ map_twice m (point_before t) (map (class t) new)) allowed)
    task (recursion_from_All _ (executions t r) decides))

pub lifts_by : (t : Task) (r k : ℕ) (m : View → ℕ) → IsTask t → IsDecisionMap t r m → IsDecisionMap t (r + k) (lifted_by t k m)
lifts_by t r zero m task decides = let same : r + 0 ≡ r = omega arith in subst (λ n. IsDecisionMap t n m) (sym same) decides
lifts_by t r (suc k) m task decides =
    let same : suc r + k ≡ r + suc k = omega arith in
    subst (λ n. IsDecisionMap t n (lifted_by t k (lifted t m))) same (lifts_by t (suc r) k (lifted t m) task (lifts t r m task decides))

pub lifts_as_it_is : (t : Task) (r : ℕ) (m : View → ℕ) → IsTask t → ((v : View) → m (class t v) ≡ m v) → IsDecisionMap t r m → IsDecisionMap t (suc r) (λ v. m (own_before v))
lifts_as_it_is t r m task same decides = subst (IsDecisionMap t (suc r)) (λ i v. same (own_before v) i) (lifts t r m task decides)

pub none_before : (t : Task) (r : ℕ) → IsTask t → HasNoDecisionMap t (suc r) → HasNoDecisionMap t r
none_before t r task none m decides = none (lifted t m) (lifts t r m task decides)

-- the point before each point is a point
points_before : (t : Task) (r : ℕ) → IsTask t → AllByRecursion (λ v. Among (points t r) (point_before t v)) (points t (suc r))
points_before t r task =
    each_distinct (λ v. Among (points t r) (point_before t v)) same_view (flat_map (execution_points t) (executions t (suc r)))
    (each_flat (λ v. Among (points t r) (point_before t v)) (execution_points t) (executions t (suc r))
    (each_round_more t r (λ rule vs. AllByRecursion (Among (points t r)) (map (class t) vs)) (λ rule vs. AllByRecursion (λ v. Among (points t r) (point_before t v)) (map (class t) vs))
    (λ rule old new same among. each_of_map (Among (points t r)) (point_before t) (map (class t) new) (subst (AllByRecursion (Among (points t r))) (sym same) among))
    task (classes_are_points t r)))

pub numbers_in_range : (t : Task) (r : ℕ) → IsTask t → All (λ k. k < length (points t r)) (numbers_before t r)
numbers_in_range t r task =
    All-from_recursion _ (numbers_before t r) (each_map (λ k. k < length (points t r)) (λ v. number_of (points t r) (point_before t v)) (points t (suc r))
    (weaker (λ v. Among (points t r) (point_before t v)) (λ v. number_of (points t r) (point_before t v) < length (points t r)) (λ v h. number_below (points t r) (point_before t v) h) (points t (suc r)) (points_before t r task)))

pub lifted_listed : (t : Task) (r : ℕ) (m : View → ℕ) → IsTask t → listed t (suc r) (lifted t m) ≡ lifted_list t r (listed t r m)
lifted_listed t r m task = each_value (points t (suc r)) (points_before t r task)
  where
    each_value : (vs : List View) → AllByRecursion (λ v. Among (points t r) (point_before t v)) vs →
        map (lifted t m) vs ≡ map (slice_index (map m (points t r))) (map (λ v. number_of (points t r) (point_before t v)) vs)
    each_value [] h = refl
    each_value (v ∷ vs) h = λ i. sym (value_at_number m (points t r) (point_before t v) h.0) i ∷ each_value vs h.1 i

pub solution_lifts : (t : Task) (r : ℕ) (values : List ℕ) → IsTask t → IsSolution (problem_of t r) values → IsSolution (problem_of t (suc r)) (lifted_list t r values)
solution_lifts t r values task solves =
    let m = map_by_number t r values in
    let same : listed t (suc r) (lifted t m) ≡ lifted_list t r values = sym (map_twice (slice_index values) (λ v. number_of (points t r) (point_before t v)) (points t (suc r))) in
    subst (IsSolution (problem_of t (suc r))) same (listed_solves t (suc r) (lifted t m) (lifts t r m task (solution_decides t r values solves)))

-- the points before are those of the execution without its last word
pub without_last : (t : Task) (rule : Rule) (ws : List Word) (w : Word) → is_simplex rule.input ≡ true → AllByRecursion (λ u. length u ≡ length rule.input) (ws ++ (w ∷ [])) →
    map (point_before t) (execution_points t (record { rule = rule; words = ws ++ (w ∷ []) })) ≡ execution_points t (record { rule = rule; words = ws })
without_last t rule ws w simplex long = from (base_views rule.input) ws long (stands_at_first rule.input simplex)
  where
    from : (old : List View) (ws : List Word) → AllByRecursion (λ u. length u ≡ length rule.input) (ws ++ (w ∷ [])) → Stands (length rule.input) old →
        map (point_before t) (map (class t) (fold round old (ws ++ (w ∷ [])))) ≡ map (class t) (fold round old ws)
    from old [] long stands = before_round t w old (long.0 ∙ sym stands.long) stands.ascends
    from old (u ∷ ws) long stands = from (round old u) ws long.1 (stands_after (length rule.input) u old long.0 stands)
