-- Decision maps of a task, and of the task that allows other tuples.
use Rattle.std.proofs.Common.{◌≡◌, ℕ, true, false, cond, List, [], ◌∷◌, map, length, Contains, refl}
use Rattle.std.specs.List.{AllByRecursion}
use Rattle.std.specs.Ordering.{nat_cmp}
use Rattle.std.specs.Cmp.Lexicographic.{slice_cmp}
use Rattle.std.specs.FinMap.{nat_cmp-IsAntisymmetric, slice_cmp-IsAntisymmetric}
use Rattle.std.proofs.lemmas.List.Elements.{recursion_from_All, All-from_recursion}
use Rattle.wf_model.specs.Lists.{in_order, lists_of}
use Rattle.wf_model.specs.Word.{Word, words}
use Rattle.wf_model.specs.View.{View, normal}
use Rattle.wf_model.specs.Task.{Rule, Task, Tuple, first_block}
use Rattle.wf_model.specs.Execution.{Execution, executions, executions_on}
use Rattle.wf_model.specs.Points.{class, execution_points}
use Rattle.wf_model.specs.DecisionMap.{IsDecisionMap}
use Rattle.wf_model.proofs.Lemmas.{each_flat, each_map, each_of_map}
use Rattle.wf_tree_model.proofs.OfCounting.Lemmas.{contained, each_of_flat}
use Rattle.wf_tree_model.specs.Refined.{allowing, with_tuples}
use Rattle.wf_tree_model.proofs.Members.{Has, contained_has, contains, from_each, in_order_has, of_has}

abbrev pub on_rule : Rule → List Word → Execution
on_rule rule ws = record { rule = rule; words = ws }

-- what is decided after the words is a tuple of the rule
pub decided : (t : Task) (r : ℕ) (m : View → ℕ) → IsDecisionMap t r m → (rule : Rule) → Contains t.delta rule →
    (ws : List Word) → Has ws (lists_of (words (first_block t) (length rule.input)) r) → Has (map m (execution_points t (on_rule rule ws))) rule.tuples
decided t r m decides rule there ws run =
    let P = λ (e : Execution). Contains e.rule.tuples (map m (execution_points t e)) in
    let lists = lists_of (words (first_block t) (length rule.input)) r in
    let each_rule = each_of_flat P (executions_on (first_block t) r) t.delta (recursion_from_All P (executions t r) decides) in
    let each_list = each_of_map P (on_rule rule) lists (contained (λ q. AllByRecursion P (executions_on (first_block t) r q)) t.delta rule each_rule there) in
    contained_has (map m (execution_points t (on_rule rule ws))) rule.tuples (of_has (λ us. P (on_rule rule us)) lists ws each_list run)

-- a map that decides the other tuples is a decision map of the task that allows them
pub decides_allowed : (t : Task) (tuples : Rule → List Tuple) (r : ℕ) (m : View → ℕ) →
    ((rule : Rule) → Contains t.delta rule → (ws : List Word) → Has ws (lists_of (words (first_block t) (length rule.input)) r) → Has (map m (execution_points t (on_rule rule ws))) (tuples rule)) →
    IsDecisionMap (allowing tuples t) r m
decides_allowed t tuples r m f =
    let new = allowing tuples t in
    let P = λ (e : Execution). Contains e.rule.tuples (map m (execution_points new e)) in
    All-from_recursion P (executions new r)
    (each_flat P (executions_on (first_block t) r) new.delta
    (each_map (λ q. AllByRecursion P (executions_on (first_block t) r q)) (with_tuples tuples) t.delta
    (from_each (λ rule. AllByRecursion P (executions_on (first_block t) r (with_tuples tuples rule))) t.delta
    (λ rule there. each_map P (on_rule (with_tuples tuples rule)) (lists_of (words (first_block t) (length rule.input)) r)
    (from_each (λ ws. P (on_rule (with_tuples tuples rule) ws)) (lists_of (words (first_block t) (length rule.input)) r)
    (λ ws run. contains (map m (execution_points t (on_rule rule ws))) (in_order (slice_cmp nat_cmp) (tuples rule))
    (in_order_has (slice_cmp nat_cmp) (slice_cmp-IsAntisymmetric nat_cmp-IsAntisymmetric) (map m (execution_points t (on_rule rule ws))) (tuples rule)
    (f rule (contains rule t.delta there) ws run))))))))

-- ---- classes

pub own_class : (t : Task) → t.symmetric ≡ false → (vs : List View) → map (class t) vs ≡ vs
own_class t plain [] = refl
own_class t plain (v ∷ vs) = λ i. cond (plain i) (normal v) v ∷ own_class t plain vs i

pub rank_class : (t : Task) → t.symmetric ≡ true → (vs : List View) → map (class t) vs ≡ map normal vs
rank_class t same [] = refl
rank_class t same (v ∷ vs) = λ i. cond (same i) (normal v) v ∷ rank_class t same vs i
