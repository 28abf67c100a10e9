-- The map that the canonical search finds is the least solution in the box.
use Rattle.std.proofs.Common.{◌≡◌, ℕ, zero, suc, ◌<◌, ◌≤◌, ◌⊎◌, true, List, [], ◌∷◌, map, length, replicate, Option, Some, None, refl, ◌∙◌, subst, inl, inr, arith, length-set}
use Rattle.std.specs.List.{AllByRecursion}
use Rattle.std.proofs.lemmas.List.Elements.{recursion_from_All, All-from_recursion}
use Rattle.std.proofs.Math.ListN.{length-replicate}
use Rattle.wf_model.specs.Lists.{has, IsBelow}
use Rattle.wf_model.specs.Simplex.{is_ascending}
use Rattle.wf_model.specs.View.{View}
use Rattle.wf_model.specs.Task.{Task, IsTask}
use Rattle.wf_model.specs.DecisionMap.{IsDecisionMap, IsLeast}
use Rattle.wf_model.specs.Problem.{Problem, IsSolution, IsWellFormed, problem_of}
use Rattle.wf_model.specs.Box.{Box, LiesIn, root, candidates, decided, branches_at, count, first_open}
use Rattle.wf_model.specs.Refutation.{Line}
use Rattle.wf_model.specs.Closing.{Trace, before, in_turn, branching_at, branching, searched, sweep, closing, search_within, canonical}
use Rattle.wf_model.specs.Laws.{IsBoxOf, IsLeastIn}
use Rattle.wf_model.proofs.MapsAreSolutions.{weaker, by_number, solution_decides}
use Rattle.wf_model.proofs.Headline.{lies_in_root, no_decision_map}
use Rattle.wf_model.proofs.TreesAreSound.{none_refutes, value_at_point}
use Rattle.wf_model.proofs.CanonicalSteps.{Leaves, leaves_both, closing_count, Few, branches_few, open_point}
use Rattle.wf_model.proofs.CanonicalRefutations.{NoMap, refutes_within, canonical_none_refutes}
use Rattle.wf_model.proofs.LastSweep.{each_has, closing_stable}
use Rattle.wf_model.proofs.Ascending.{Ascends, ascends_from}
use Rattle.wf_model.proofs.WellFormed.{task_listed, task_well_formed}
use Rattle.wf_model.proofs.Numbers.{least_map, listed_by_number}
use Rattle.wf_model.proofs.Order.{OneOf, EachPair, Before, one_with, branches_in_order, in_one_branch, in_whole}
use Rattle.wf_model.proofs.ClosingKeeps.{Ascending, ascending_after, candidates_ascend, IsInside, closing_inside, closing_keeps_solution}
use Rattle.wf_model.proofs.SolvedBoxes.{single_unless_open, values_in, values_lie, values_alone, single_solves}

-- no map is found where one was
pub no_map_is : {X : Type 0} {m : List ℕ} → None ≡ Some m → X
no_map_is h = absurd (let none : ⊥ = cc in none)

-- ---- boxes one after another

module _ (p : Problem) where
  -- what a search answers of a box: the least solution there, or none where there is none
  pub record Answers (box : Box) (t : Trace) : Type 0 where
    pub map : (m : List ℕ) → t.map ≡ Some m → IsLeastIn p box m
    pub none : t.map ≡ None → (m : List ℕ) → IsSolution p m → LiesIn m box → ⊥

  -- the least solution in these boxes
  pub record IsLeastAmong (boxes : List Box) (m : List ℕ) : Type 0 where
    solves : IsSolution p m
    lies : OneOf (LiesIn m) boxes
    least : (other : List ℕ) → IsSolution p other → OneOf (LiesIn other) boxes → (m ≡ other) ⊎ IsBelow m other

  least_in_turn : (f : Box → Trace) (boxes : List Box) → AllByRecursion (λ b. Answers b (f b)) boxes → EachPair Before boxes → (m : List ℕ) → (in_turn f boxes).map ≡ Some m → IsLeastAmong boxes m
  least_in_turn f [] answers pairs m h = no_map_is h
  least_in_turn f (box ∷ boxes) answers pairs m h = by_map (f box).map refl h (λ k. least_in_turn f boxes answers.1 pairs.1 m k)
    where
      by_map : (o : Option (List ℕ)) → (f box).map ≡ o → (before (f box).lines o (in_turn f boxes)).map ≡ Some m → ((in_turn f boxes).map ≡ Some m → IsLeastAmong boxes m) → IsLeastAmong (box ∷ boxes) m
      by_map None is h rest =
          let later = rest h in record {
            solves = later.solves;
            lies = inr later.lies;
            least = λ other solves lies. after other solves later lies;
          }
        where
          after : (other : List ℕ) → IsSolution p other → IsLeastAmong boxes m → OneOf (LiesIn other) (box ∷ boxes) → (m ≡ other) ⊎ IsBelow m other
          after other solves later (inl here) = absurd (answers.0.none is other solves here)
          after other solves later (inr more) = later.least other solves more
      by_map (Some n) is h rest =
          let least : IsLeastIn p box m = answers.0.map m (is ∙ h) in record {
            solves = least.solves;
            lies = inl least.lies;
            least = λ other solves lies. after other solves least lies;
          }
        where
          after : (other : List ℕ) → IsSolution p other → IsLeastIn p box m → OneOf (LiesIn other) (box ∷ boxes) → (m ≡ other) ⊎ IsBelow m other
          after other solves least (inl here) = least.least other solves here
          after other solves least (inr more) = inr (one_with (LiesIn other) (Before box) (IsBelow m other) boxes pairs.0 more (λ b lies before. before m other least.lies lies))

-- ---- the search

pub each_decided : (p : Problem) (box : Box) (v : ℕ) (values : List ℕ) → length box ≡ p.points → Ascending box → AllByRecursion (λ b. (length b ≡ p.points) × Ascending b) (map (decided box v) values)
each_decided p box v [] long up = tt
each_decided p box v (a ∷ values) long up = ((length-set box v (a ∷ []) ∙ long, ascending_after box v (a ∷ []) (tt, tt) up), each_decided p box v values long up)

whole_each : (box : Box) (v : ℕ) (values : List ℕ) → AllByRecursion (λ a. has (candidates box v) a ≡ true) values → AllByRecursion (λ b. (m : List ℕ) → LiesIn m b → LiesIn m box) (map (decided box v) values)
whole_each box v [] h = tt
whole_each box v (a ∷ values) h = (λ m lies. in_whole m box v a h.0 lies, whole_each box v values h.1)

-- the maps of the branches lie in the box
pub branches_within : (box : Box) (v : ℕ) → AllByRecursion (λ b. (m : List ℕ) → LiesIn m b → LiesIn m box) (branches_at box v)
branches_within box v = whole_each box v (candidates box v) (each_has (candidates box v))

-- a map of one of the branches lies in the box
from_branches : (m : List ℕ) (box : Box) (v : ℕ) → OneOf (LiesIn m) (branches_at box v) → LiesIn m box
from_branches m box v one =
    one_with (LiesIn m) (λ b. (n : List ℕ) → LiesIn n b → LiesIn n box) (LiesIn m box) (branches_at box v) (branches_within box v) one (λ b lies up. up m lies)

-- a map of the box lies in one of the branches at an open point
pub to_branches : (m : List ℕ) (box : Box) (v : ℕ) → first_open box ≡ Some v → LiesIn m box → OneOf (LiesIn m) (branches_at box v)
to_branches m box v is lies = in_one_branch m box v (candidates box v) lies (value_at_point m box v 1 (open_point box v is) lies)

module _ (p : Problem) (well : IsWellFormed p) where
  -- a search that answers of the boxes with few candidates
  abbrev IsAnswering : ℕ → (Box → Trace) → Type 0
  IsAnswering n f = (box : Box) → count box < n → length box ≡ p.points → Ascending box → Answers p box (f box)

  answers_each : (n : ℕ) (f : Box → Trace) → IsAnswering n f → (boxes : List Box) → Few n boxes → AllByRecursion (λ b. (length b ≡ p.points) × Ascending b) boxes → AllByRecursion (λ b. Answers p b (f b)) boxes
  answers_each n f s [] few h = tt
  answers_each n f s (box ∷ boxes) few h = (s box few.0 h.0.0 h.0.1, answers_each n f s boxes few.1 h.1)

  -- in a closed box
  least_branching : (n : ℕ) (f : Box → Trace) → IsAnswering n f → (old box : Box) → IsInside old box → length old ≡ p.points → Ascending old → (sweep p box).lines ≡ [] → count box ≤ n →
      (m : List ℕ) → (branching f box).map ≡ Some m → IsLeastIn p box m
  least_branching n f s old box in' long up stable few m h = by_open (first_open box) refl h
    where
      by_open : (o : Option ℕ) → first_open box ≡ o → (branching_at o f box).map ≡ Some m → IsLeastIn p box m
      by_open None is h =
          let single = single_unless_open box in'.full is in
          let same : values_in box ≡ m = cc in
          subst (IsLeastIn p box) same (record {
            solves = single_solves p well box (in'.long ∙ long) single stable;
            lies = values_lie box single;
            least = λ other solves lies. inl (values_alone other box single lies);
          })
      by_open (Some v) is h =
          let up' = in'.ascending up in
          let among = least_in_turn p f (branches_at box v)
          (answers_each n f s (branches_at box v) (branches_few n box v (candidates box v) (open_point box v is) few) (each_decided p box v (candidates box v) (in'.long ∙ long) up'))
          (branches_in_order box v is (candidates_ascend box v up')) m h in record {
            solves = among.solves;
            lies = from_branches m box v among.lies;
            least = λ other solves lies. among.least other solves (to_branches other box v is lies);
          }

  -- what closing leaves
  pub record IsClosed (box b : Box) : Type 0 where
    pub inside : IsInside box b
    pub stable : (sweep p b).lines ≡ []
    pub fewer : count b ≤ count box

  pub leaves_closed : (box : Box) → Leaves (IsClosed box) (closing p box).left
  leaves_closed box =
      leaves_both (IsInside box) (λ b. ((sweep p b).lines ≡ []) × (count b ≤ count box)) (IsClosed box) (λ b in' h. record { inside = in'; stable = h.0; fewer = h.1 }) (closing p box).left
      (closing_inside p box)
      (leaves_both (λ b. (sweep p b).lines ≡ []) (λ b. count b ≤ count box) (λ b. ((sweep p b).lines ≡ []) × (count b ≤ count box)) (λ b h k. (h, k)) (closing p box).left
      (closing_stable p box) (closing_count p box))

  least_searched : (n : ℕ) (f : Box → Trace) → IsAnswering n f → (box : Box) → length box ≡ p.points → Ascending box → count box ≤ n → (ls : List Line) (left : Option Box) →
      Leaves (IsClosed box) left → ((other : List ℕ) → IsSolution p other → LiesIn other box → Leaves (LiesIn other) left) → (m : List ℕ) → (searched ls left (branching f)).map ≡ Some m → IsLeastIn p box m
  least_searched n f s box long up few ls None closed keeps m h = no_map_is h
  least_searched n f s box long up few ls (Some b) closed keeps m h =
      let least = least_branching n f s box b closed.inside long up closed.stable (let c : count b ≤ count box = closed.fewer in omega (arith, c, few)) m h in record {
        solves = least.solves;
        lies = closed.inside.smaller m least.lies;
        least = λ other solves lies. least.least other solves (keeps other solves lies);
      }

  no_map : (o : Option (List ℕ)) → o ≡ None → NoMap p o
  no_map None h = tt
  no_map (Some m) h = absurd (let none : ⊥ = cc in none)

  answers_within : (n : ℕ) → IsAnswering n (search_within n p)
  answers_within zero box few long up = absurd (let none : ⊥ = omega (arith, few) in none)
  answers_within (suc n) box few long up = record {
    map = least_searched n (search_within n p) (answers_within n) box long up (omega (arith, few)) (closing p box).lines (closing p box).left (leaves_closed box)
        (λ other solves lies. closing_keeps_solution p well.in_range other solves box lies);
    none = λ none m solves lies.
        let refuted = refutes_within p (suc n) box few (no_map (search_within (suc n) p box).map none) in
        none_refutes p well.in_range m solves refuted.0 box refuted.2 lies;
  }

  pub canonical_answers : (box : Box) → IsBoxOf p box → Answers p box (canonical p box)
  canonical_answers box is =
      answers_within (suc (count box)) box (omega arith) is.long
      (weaker (λ set. is_ascending set ≡ true) Ascends (λ set h. ascends_from set h) box (recursion_from_All _ box is.ascending))

-- where the canonical search finds a map, it is the least solution in the box
pub canonical_least : (p : Problem) (box : Box) (m : List ℕ) → IsWellFormed p → IsBoxOf p box → (canonical p box).map ≡ Some m → IsLeastIn p box m
canonical_least p box m well is found = (canonical_answers p well box is).map m found

-- ---- the answer for a task

each_replicated : (P : List ℕ → Type 0) (n : ℕ) (set : List ℕ) → P set → AllByRecursion P (replicate n set)
each_replicated P zero set h = tt
each_replicated P (suc n) set h = (h, each_replicated P n set h)

pub root_is_box : (p : Problem) → IsWellFormed p → IsBoxOf p (root p)
root_is_box p well = record {
  long = length-replicate p.points p.values;
  ascending = All-from_recursion _ (root p) (each_replicated (λ set. is_ascending set ≡ true) p.points p.values well.ascending_values);
}

-- every solution of a task's problem lies in the root
pub solution_in_root : (t : Task) (r : ℕ) (m : List ℕ) → IsTask t → IsSolution (problem_of t r) m → LiesIn m (root (problem_of t r))
solution_in_root t r m task solves =
    subst (λ list. LiesIn list (root (problem_of t r))) (listed_by_number t r m solves.long) (lies_in_root t r (by_number t r m) (task_listed t task) (solution_decides t r m solves))

-- the least solution in the root is the least decision map
pub least_in_root : (t : Task) (r : ℕ) (m : List ℕ) → IsTask t → IsLeastIn (problem_of t r) (root (problem_of t r)) m → IsLeast t r (by_number t r m)
least_in_root t r m task is = least_map t r m (record { solves = is.solves; least = λ other solves. is.least other solves (solution_in_root t r other task solves) })

-- the map that is found is the least decision map
pub answer_least : (t : Task) (r : ℕ) (m : List ℕ) → IsTask t → (canonical (problem_of t r) (root (problem_of t r))).map ≡ Some m → IsLeast t r (by_number t r m)
answer_least t r m task found =
    let well = task_well_formed t r task in
    least_in_root t r m task (canonical_least (problem_of t r) (root (problem_of t r)) m well (root_is_box (problem_of t r) well) found)

-- where none is found, there is none
pub answer_none : (t : Task) (r : ℕ) → IsTask t → (canonical (problem_of t r) (root (problem_of t r))).map ≡ None → (m : View → ℕ) → IsDecisionMap t r m → ⊥
answer_none t r task none =
    let refuted = canonical_none_refutes (problem_of t r) (root (problem_of t r)) none in
    no_decision_map t r refuted.0 (task_listed t task) refuted.2
