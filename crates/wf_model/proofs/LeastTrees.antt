-- The solution to which a least tree leads is the least one in its box.
use Rattle.std.proofs.Common.{◌≡◌, ℕ, ◌<◌, ◌≤◌, ◌==◌, ◌⊎◌, true, List, [], ◌∷◌, length, slice_index, nat_lt, Some, All, refl, sym, subst, inl, inr, eqb-true, ltb-false}
use Rattle.std.specs.List.{AllByRecursion}
use Rattle.std.proofs.lemmas.Bool.{or_cases, or_left, eq-eqb}
use Rattle.std.proofs.lemmas.List.Quantifiers.{position-Some}
use Rattle.std.proofs.lemmas.List.Elements.{recursion_from_All}
use Rattle.wf_model.specs.Lists.{has, IsBelow}
use Rattle.wf_model.specs.Simplex.{is_ascending}
use Rattle.wf_model.specs.Task.{Task, IsTask}
use Rattle.wf_model.specs.DecisionMap.{IsLeast}
use Rattle.wf_model.specs.Problem.{Problem, IsSolution, InRange, problem_of}
use Rattle.wf_model.specs.Box.{Box, LiesIn, root, candidates, without, decided, first_open}
use Rattle.wf_model.specs.Refutation.{Tree, emptied, removed, branched, ended, Trees, no_trees, tree}
use Rattle.wf_model.specs.LeastTree.{IsLeastTree, LeastAmong, exactly}
use Rattle.wf_model.specs.Laws.{IsLeastIn}
use Rattle.wf_model.proofs.MapsAreSolutions.{weaker, by_number}
use Rattle.wf_model.proofs.TreesAreSound.{none_refutes, lies_in_branch, lies_without, named, kept, value_at_point}
use Rattle.wf_model.proofs.CanonicalSteps.{open_point}
use Rattle.wf_model.proofs.LastSweep.{each_has}
use Rattle.wf_model.proofs.Ascending.{Ascends, ascends_from, ascends_filter}
use Rattle.wf_model.proofs.WellFormed.{task_well_formed}
use Rattle.wf_model.proofs.Order.{only, branch_before, in_whole}
use Rattle.wf_model.proofs.ClosingKeeps.{Ascending, candidates_ascend, ascending_after, lies_with}
use Rattle.wf_model.proofs.ClosedBoxes.{each_with_value}
use Rattle.wf_model.proofs.LeastSolutions.{root_is_box, least_in_root}

-- ---- the map lies in the box

pub lies_exactly : (m : List ℕ) → LiesIn m (exactly m)
lies_exactly [] = tt
lies_exactly (a ∷ m) = (or_left (a == a) _ (eq-eqb a a refl), lies_exactly m)

alone_exactly : (m other : List ℕ) → LiesIn other (exactly m) → m ≡ other
alone_exactly [] [] lies = refl
alone_exactly [] (x ∷ other) lies = absurd lies
alone_exactly (a ∷ m) [] lies = absurd lies
alone_exactly (a ∷ m) (x ∷ other) lies = λ i. only a x lies.0 i ∷ alone_exactly m other lies.1 i

module _ (p : Problem) (m : List ℕ) where
  mutual
    -- the map to which a tree leads lies in the tree's box
    pub lies_by_tree : (t : Tree) (box : Box) → IsLeastTree p m t box → LiesIn m box
    lies_by_tree (emptied v) box r = absurd r
    lies_by_tree (removed e c a v t) box r = lies_with m box v a (lies_by_tree t (without box v a) r.1)
    lies_by_tree (branched v ts) box r = lies_among ts v box (candidates box v) (each_has (candidates box v)) r.1
    lies_by_tree ended box r = subst (LiesIn m) (sym r) (lies_exactly m)

    lies_among : (ts : Trees) (v : ℕ) (box : Box) (values : List ℕ) → AllByRecursion (λ a. has (candidates box v) a ≡ true) values → LeastAmong p m v ts box values → LiesIn m box
    lies_among no_trees v box values known r = absurd r
    lies_among (tree t ts) v box [] known r = absurd r
    lies_among (tree t no_trees) v box (a ∷ values) known r = in_whole m box v a known.0 (lies_by_tree t (decided box v a) r.1)
    lies_among (tree t (tree u us)) v box (a ∷ values) known r = lies_among (tree u us) v box values known.1 r.3

-- ---- and no other solution there is below

-- at the first open point, and before it no other one
record IsFirstOpen (box : Box) (v : ℕ) : Type 0 where
  within : v < length box
  few : (u : ℕ) → u < v → length (candidates box u) ≤ 1

is_first_open : (box : Box) (v : ℕ) → first_open box ≡ Some v → IsFirstOpen box v
is_first_open box v is =
    let there = position-Some (λ (set : List ℕ). nat_lt 1 (length set)) box v [] is in
    record { within = there.0; few = λ u low. ltb-false 1 (length (candidates box u)) (there.2 u low) }

in_branch_of : (other : List ℕ) (box : Box) (v a : ℕ) → LiesIn other box → a ≡ slice_index other v → LiesIn other (decided box v a)
in_branch_of other box v a lies same = subst (λ x. LiesIn other (decided box v x)) (sym same) (lies_in_branch other box v lies)

module _ (p : Problem) (in_range : InRange p) (m : List ℕ) where
  mutual
    lowest_by_tree : (t : Tree) (box : Box) → Ascending box → IsLeastTree p m t box → (other : List ℕ) → IsSolution p other → LiesIn other box → (m ≡ other) ⊎ IsBelow m other
    lowest_by_tree (emptied v) box up r other solves lies = absurd r
    lowest_by_tree (removed e c a v t) box up r other solves lies =
        lowest_by_tree t (without box v a) (ascending_after box v _ (ascends_filter _ (candidates box v) (candidates_ascend box v up)) up) r.1 other solves
        (lies_without p in_range other solves box v a lies (named p in_range other solves e c a v box r.0) (kept p in_range other solves box e c a v lies r.0))
    lowest_by_tree (branched v ts) box up r other solves lies =
        lowest_among ts v box (candidates box v) up (is_first_open box v r.0) (candidates_ascend box v up) r.1 other solves lies
        (value_at_point other box v 1 (open_point box v r.0) lies)
    lowest_by_tree ended box up r other solves lies = inl (alone_exactly m other (subst (LiesIn other) r lies))

    lowest_among : (ts : Trees) (v : ℕ) (box : Box) (values : List ℕ) → Ascending box → IsFirstOpen box v → Ascends values → LeastAmong p m v ts box values →
        (other : List ℕ) → IsSolution p other → LiesIn other box → has values (slice_index other v) ≡ true → (m ≡ other) ⊎ IsBelow m other
    lowest_among no_trees v box values up first rising r other solves lies h = absurd r
    lowest_among (tree t ts) v box [] up first rising r other solves lies h = absurd r
    lowest_among (tree t no_trees) v box (a ∷ values) up first rising r other solves lies h =
        elim (or_cases (a == slice_index other v) (has values (slice_index other v)) h) [
          | inl here ↦ lowest_by_tree t (decided box v a) (ascending_after box v (a ∷ []) (tt, tt) up) r.1 other solves (in_branch_of other box v a lies (eqb-true a (slice_index other v) here))
          | inr later ↦ inr (branch_before box v a (slice_index other v) (each_with_value (λ b. a < b) values (slice_index other v) rising.0 later) first.within first.few m other
              (lies_by_tree p m t (decided box v a) r.1) (lies_in_branch other box v lies))
        ]
    lowest_among (tree t (tree u us)) v box (a ∷ values) up first rising r other solves lies h =
        elim (or_cases (a == slice_index other v) (has values (slice_index other v)) h) [
          | inl here ↦ absurd (none_refutes p in_range other solves t (decided box v a) r.1 (in_branch_of other box v a lies (eqb-true a (slice_index other v) here)))
          | inr later ↦ lowest_among (tree u us) v box values up first rising.1 r.3 other solves lies later
        ]

-- a solution to which a tree leads is the least one in the tree's box
pub tree_least : (p : Problem) (box : Box) (m : List ℕ) (t : Tree) → InRange p → All (λ set. is_ascending set ≡ true) box → IsSolution p m → IsLeastTree p m t box → IsLeastIn p box m
tree_least p box m t in_range up solves leads = record {
  solves = solves;
  lies = lies_by_tree p m t box leads;
  least = lowest_by_tree p in_range m t box (weaker (λ set. is_ascending set ≡ true) Ascends (λ set h. ascends_from set h) box (recursion_from_All _ box up)) leads;
}

-- and of a task's root, it is the least decision map
pub tree_least_map : (t : Task) (r : ℕ) (m : List ℕ) (certificate : Tree) → IsTask t → IsSolution (problem_of t r) m → IsLeastTree (problem_of t r) m certificate (root (problem_of t r)) → IsLeast t r (by_number t r m)
tree_least_map t r m certificate task solves leads =
    let well = task_well_formed t r task in
    least_in_root t r m task (tree_least (problem_of t r) (root (problem_of t r)) m certificate well.in_range (root_is_box (problem_of t r) well).ascending solves leads)
