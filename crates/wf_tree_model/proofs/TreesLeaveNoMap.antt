-- A tree leaves no decision map.
use Rattle.std.proofs.Common.{◌≡◌, ℕ, List, [], ◌∷◌, inl, inr, subst}
use Rattle.wf_model.specs.Task.{IsTask, Rule, Task, Tuple, first_block}
use Rattle.wf_model.specs.DecisionMap.{HasNoDecisionMap}
use Rattle.wf_tree_model.specs.Counting.Rules.{rule_at}
use Rattle.wf_tree_model.proofs.OfCounting.Lemmas.{listed_rule}
use Rattle.wf_tree_model.specs.Cases.{components, in_case, tuples_in_case}
use Rattle.wf_tree_model.specs.Covers.{covered, tuples_covered}
use Rattle.wf_tree_model.specs.Splits.{by_stars, split, tuples_split}
use Rattle.wf_tree_model.specs.Trees.{AreTrees, IsObstruction, IsTree, Tree, Trees, balance, by_cases, by_cover, by_sheets, by_split, new_name, no_tree, tree_before}
use Rattle.wf_tree_model.proofs.Members.{Has, contained_has}
use Rattle.wf_tree_model.proofs.Inputs.{HasInputComplex, has_input_complex, refined, setting}
use Rattle.wf_tree_model.proofs.BalancesLeaveNoMap.{balance_leaves_no_map}
use Rattle.wf_tree_model.proofs.CaseMaps.{cases_leave}
use Rattle.wf_tree_model.proofs.CoverMaps.{covers_leave}
use Rattle.wf_tree_model.proofs.SplitMaps.{splits_leave, stars_split}

mutual
  tree_leaves : (tree : Tree) (t : Task) → HasInputComplex t → first_block t ≡ 1 → IsTree tree t → (r : ℕ) → HasNoDecisionMap t r
  tree_leaves (balance modulus sum xs) t fit words is r = balance_leaves_no_map t modulus sum xs fit words is r
  tree_leaves (by_cases simplex trees) t fit words is r =
      let of = rule_at t simplex in
      cases_leave t of r fit words (listed_rule t simplex is.0) (λ part there. each_leaves trees t of (components of) fit words is.1 r part (contained_has part (components of) there))
  tree_leaves (by_split simplex tree) t fit words is r =
      let s = by_stars (rule_at t simplex) (new_name t) in
      let there = listed_rule t simplex is.1 in
      splits_leave t s r (setting t fit words is.0 (rule_at t simplex) there) (stars_split t (rule_at t simplex) (new_name t) there)
      (tree_leaves tree (split s t) (refined t (tuples_split s) fit) words is.2 r)
  tree_leaves (by_cover simplex sheets corner moves tree) t fit words is r =
      let c = by_sheets t (rule_at t simplex) sheets corner moves in
      covers_leave t c r (setting t fit words is.0 (rule_at t simplex) (listed_rule t simplex is.1)) is.2
      (tree_leaves tree (covered c t) (refined t (tuples_covered c) fit) words is.3 r)

  each_leaves : (trees : Trees) (t : Task) (of : Rule) (parts : List (List Tuple)) → HasInputComplex t → first_block t ≡ 1 → AreTrees trees t of parts → (r : ℕ) (part : List Tuple) → Has part parts → HasNoDecisionMap (in_case of part t) r
  each_leaves no_tree t of [] fit words is r part there = absurd there
  each_leaves no_tree t of (first ∷ more) fit words is r part there = absurd is
  each_leaves (tree_before tree trees) t of [] fit words is r part there = absurd there
  each_leaves (tree_before tree trees) t of (first ∷ more) fit words is r part (inl same) =
      subst (λ p. HasNoDecisionMap (in_case of p t) r) same (tree_leaves tree (in_case of first t) (refined t (tuples_in_case t of first) fit) words is.0 r)
  each_leaves (tree_before tree trees) t of (first ∷ more) fit words is r part (inr later) = each_leaves trees t of more fit words is.1 r part later

pub obstruction_leaves_no_map : (t : Task) (tree : Tree) → IsTask t → IsObstruction t tree → (r : ℕ) → HasNoDecisionMap t r
obstruction_leaves_no_map t tree task is r = tree_leaves tree t (has_input_complex t task) is.all_words is.settled r
