-- The formula in a box has a model exactly where a solution lies there, and
-- what the branches of a task say together.
use Rattle.std.proofs.Common.{◌≡◌, ◌↔◌, ℕ, zero, suc, ◌+◌, ◌<◌, ◌⊎◌, Bool, true, false, not, List, [], ◌∷◌, map, length, slice_index, replicate, Option, Some, None, All, inl, inr, refl, sym, ap, ◌∙◌, subst, arith}
use Rattle.std.specs.List.{AllByRecursion}
use Rattle.std.proofs.lemmas.Bool.{cases_Bool, cases_order, or_cases, or_left, both_ways, not-true, not_from_false, false≢true}
use Rattle.std.proofs.lemmas.List.Elements.{recursion_from_All, All-from_recursion, All-append}
use Rattle.wf_model.specs.Lists.{below, has, IsBelow}
use Rattle.wf_model.specs.View.{View}
use Rattle.wf_model.specs.Task.{Task, IsTask}
use Rattle.wf_model.specs.DecisionMap.{HasNoDecisionMap, IsLeast, listed}
use Rattle.wf_model.specs.Problem.{Problem, IsSolution, IsWellFormed, problem_of, map_by_number}
use Rattle.wf_model.specs.Box.{Box, LiesIn, root, candidates}
use Rattle.wf_model.specs.Closing.{canonical}
use Rattle.wf_model.specs.Laws.{LiesAt, LiesInExactlyOne}
use Rattle.wf_model.proofs.Lemmas.{weaker, listed_solves, solution_decides, each_flat, each_map, each_filter, both, has_value, listed_by_number, below_itself, below_one_way, solution_in_root, answer_least, answer_none, in_order, in_exactly_one, split_covers, split_closed, task_well_formed}
use Rattle.wf_sat_text.specs.Clauses.Formula.{Assignment, Clause, satisfies, IsOn, IsModel, HasModel, IsUnsatisfiable, NamesItsVariables}
use Rattle.wf_sat_formula.specs.Encoding.{variable, formula_of, least_true, map_in, stating}
use Rattle.wf_sat_formula.specs.Laws.{HasFullTuples}
use Rattle.wf_sat_formula.specs.Branches.{ruled_out, missing, exclusions, formula_in, branches, branch_at, branch_question}
use Rattle.wf_sat_formula.specs.BranchLaws.{IsSolutionIn, HasSolutionIn}
use Rattle.wf_sat_formula.proofs.Members.{In, each_in, each_from_in, in_left, in_right, in_map, in_flat, in_filter, in_has, in_below, each_below, has_each}
use Rattle.wf_sat_formula.proofs.MinimalPatterns.{each_filtered}
use Rattle.wf_sat_formula.proofs.Variables.{variable_listed}
use Rattle.wf_sat_formula.proofs.Models.{gives_solution, value_true, value_there}
use Rattle.wf_sat_formula.proofs.Maps.{is_model, stated_alone, all_listed, root_candidates}
use Rattle.wf_sat_formula.proofs.Tasks.{names_variables, task_full, unsatisfiable_where}

-- ---- clauses of values that a box has not

IsMissing : List ℕ → Box → ℕ → ℕ → Type 0
IsMissing values box v a = (has values a ≡ true) × (has (candidates box v) a ≡ false)

each_missing : (values : List ℕ) (box : Box) (v : ℕ) → AllByRecursion (IsMissing values box v) (missing values box v)
unfolding IsMissing
each_missing values box v =
    let test : ℕ → Bool = λ a. not (has (candidates box v) a) in
    both (λ a. has values a ≡ true) (λ a. test a ≡ true) (IsMissing values box v) (λ a h k. (h, not-true (has (candidates box v) a) k)) (missing values box v)
    (each_filter (λ a. has values a ≡ true) test values (has_each values)) (each_filtered test values)

-- what holds of the clause of each missing value holds of all exclusions
each_exclusion : (P : Clause → Type 0) (p : Problem) (box : Box) → ((v a : ℕ) → v < p.points → has p.values a ≡ true → has (candidates box v) a ≡ false → P (ruled_out p.values v a))
    → AllByRecursion P (exclusions p box)
unfolding IsMissing
each_exclusion P p box f =
    each_flat P (λ v. map (ruled_out p.values v) (missing p.values box v)) (below p.points)
    (weaker (λ v. v < p.points) (λ v. AllByRecursion P (map (ruled_out p.values v) (missing p.values box v)))
    (λ v low. each_map P (ruled_out p.values v) (missing p.values box v)
    (weaker (IsMissing p.values box v) (λ a. P (ruled_out p.values v a)) (λ a h. f v a low h.0 h.1) (missing p.values box v) (each_missing p.values box v)))
    (below p.points) (each_below p.points))

pub box_names_variables : (p : Problem) (box : Box) → IsWellFormed p → NamesItsVariables (formula_in p box)
box_names_variables p box well =
    All-append (λ clause. All (IsOn (formula_of p).variables) clause) (formula_of p).clauses (exclusions p box) (names_variables p well)
    (All-from_recursion _ (exclusions p box) (each_exclusion (λ clause. All (IsOn (formula_of p).variables) clause) p box
    (λ v a low listed absent. All-from_recursion (IsOn (formula_of p).variables) (ruled_out p.values v a) (variable_listed p.values p.points v a listed low, tt))))

-- ---- from models to solutions

lies_from : (m : List ℕ) (box : Box) → length m ≡ length box → ((v : ℕ) → v < length m → has (candidates box v) (slice_index m v) ≡ true) → LiesIn m box
lies_from [] [] long f = tt
lies_from [] (set ∷ box) long f = absurd (let none : ⊥ = omega (arith, long) in none)
lies_from (x ∷ m) [] long f = absurd (let none : ⊥ = omega (arith, long) in none)
lies_from (x ∷ m) (set ∷ box) long f = (f 0 (omega arith), lies_from m box (omega (arith, long)) (λ v low. f (suc v) (omega (arith, low))))

root_long : (values : List ℕ) (n : ℕ) → length (replicate n values) ≡ n
root_long values zero = refl
root_long values (suc n) = ap suc (root_long values n)

-- a model of the formula in a box is one of the whole formula
pub whole_model : (p : Problem) (box : Box) (a : Assignment) → IsModel a (formula_in p box) → IsModel a (formula_of p)
whole_model p box a model =
    All-from_recursion _ (formula_of p).clauses (each_from_in (λ c. satisfies a c ≡ true) (formula_of p).clauses
    (λ clause i. each_in (λ c. satisfies a c ≡ true) (formula_in p box).clauses clause (recursion_from_All _ (formula_in p box).clauses model)
    (in_left (formula_of p).clauses (exclusions p box) clause i)))

module _ (p : Problem) (box : Box) (a : Assignment) (well : IsWellFormed p) (full : HasFullTuples p) (long : length box ≡ p.points) (model : IsModel a (formula_in p box)) where
  excluded : (v x : ℕ) → v < p.points → has p.values x ≡ true → has (candidates box v) x ≡ false → a (variable p.values v x) ≡ false
  excluded v x low listed absent =
      let test : ℕ → Bool = λ y. not (has (candidates box v) y) in
      let clauses : ℕ → List Clause = λ w. map (ruled_out p.values w) (missing p.values box w) in
      let one : In x (missing p.values box v) = in_filter test p.values x (in_has p.values x listed) (not_from_false (has (candidates box v) x) absent) in
      let among : In (ruled_out p.values v x) (exclusions p box) =
      in_flat clauses (below p.points) v (ruled_out p.values v x) (in_below p.points v low) (in_map (ruled_out p.values v) (missing p.values box v) x one) in
      let sat : satisfies a (ruled_out p.values v x) ≡ true =
      each_in (λ c. satisfies a c ≡ true) (formula_in p box).clauses (ruled_out p.values v x) (recursion_from_All _ (formula_in p box).clauses model)
      (in_right (formula_of p).clauses (exclusions p box) (ruled_out p.values v x) among) in
      elim (or_cases (not (a (variable p.values v x))) false sat) [ inl fails ↦ not-true (a (variable p.values v x)) fails | inr none ↦ absurd (false≢true none) ]

  value_in : (v : ℕ) → v < p.points → has (candidates box v) (least_true p.values a v) ≡ true
  value_in v low =
      let facts = value_true p a well full (whole_model p box a model) v low in
      elim (cases_Bool (has (candidates box v) (least_true p.values a v))) [
        | inl there ↦ there
        | inr absent ↦ absurd (both_ways (a (variable p.values v (least_true p.values a v))) (excluded v (least_true p.values a v) low facts.1 absent) facts.0)
      ]

  pub gives_solution_in : IsSolutionIn p box (map_in p a)
  gives_solution_in =
      let whole = whole_model p box a model in
      let solves = gives_solution p a well full whole in
      let there = value_there p a well full whole in
      record {
        solves = solves;
        listed = lies_from (map_in p a) (root p) (solves.long ∙ sym (root_long p.values p.points)) (λ v low.
            let within : v < p.points = omega (arith, low, solves.long) in
            subst (λ set. has set (slice_index (map_in p a) v) ≡ true) (sym (root_candidates p.values v p.points within))
            (subst (λ x. has p.values x ≡ true) (sym (there v within)) (value_true p a well full whole v within).1));
        lies = lies_from (map_in p a) box (solves.long ∙ sym long) (λ v low.
            let within : v < p.points = omega (arith, low, solves.long) in
            subst (λ x. has (candidates box v) x ≡ true) (sym (there v within)) (value_in v within));
      }

-- ---- from solutions to models

pub is_model_in : (p : Problem) (box : Box) (m : List ℕ) → IsWellFormed p → IsSolutionIn p box m → IsModel (stating p.values m) (formula_in p box)
is_model_in p box m well is =
    All-append (λ c. satisfies (stating p.values m) c ≡ true) (formula_of p).clauses (exclusions p box) (is_model p m well is.solves is.listed)
    (All-from_recursion _ (exclusions p box) (each_exclusion (λ c. satisfies (stating p.values m) c ≡ true) p box
    (λ v a low listed absent. or_left (not (stating p.values m (variable p.values v a))) false
    (not_from_false (stating p.values m (variable p.values v a)) (says_not v a low listed absent)))))
  where
    says_not : (v a : ℕ) → v < p.points → has p.values a ≡ true → has (candidates box v) a ≡ false → stating p.values m (variable p.values v a) ≡ false
    says_not v a low listed absent =
        elim (cases_Bool (stating p.values m (variable p.values v a))) [
          | inr says_no ↦ says_no
          | inl says ↦
              let e : v ≡ 0 + v = omega arith in
              let value : slice_index m v ≡ a = stated_alone p.values 0 m v a (all_listed p m well is.solves is.listed) listed (subst (λ u. stating p.values m (variable p.values u a) ≡ true) e says) in
              let there = has_value m box v is.lies (omega (arith, low, is.solves.long)) in
              absurd (both_ways (has (candidates box v) a) absent (subst (λ x. has (candidates box v) x ≡ true) value there))
        ]

pub exactly_in : (p : Problem) (box : Box) → IsWellFormed p → HasFullTuples p → length box ≡ p.points → HasModel (formula_in p box) ↔ HasSolutionIn p box
exactly_in p box well full long = (
  λ model. (map_in p model.0, gives_solution_in p box model.0 well full long model.1),
  λ solution. (stating p.values solution.0, is_model_in p box solution.0 well solution.1),
)

-- ---- the branches of a task

module _ (t : Task) (r : ℕ) (task : IsTask t) where
  solution_at : (m : List ℕ) (i : ℕ) → IsSolution (problem_of t r) m → LiesAt m (branches t r) i → HasModel (branch_question t r i)
  solution_at m i solves at = (
    stating (problem_of t r).values m,
    is_model_in (problem_of t r) (branch_at t r i) m (task_well_formed t r task)
        (record { solves = solves; listed = solution_in_root t r m task solves; lies = at.1 }),
  )

  -- a solution lies in one branch
  place : (m : List ℕ) → IsSolution (problem_of t r) m → LiesInExactlyOne m (branches t r)
  place m solves = in_exactly_one (problem_of t r) (root (problem_of t r)) (branches t r) (split_covers (problem_of t r) (task_well_formed t r task)) m solves (solution_in_root t r m task solves)

  pub branches_unsatisfiable : All (λ i. IsUnsatisfiable (branch_question t r i)) (below (length (branches t r))) ↔ HasNoDecisionMap t r
  branches_unsatisfiable = (none_decides, none_models)
    where
      Fails : ℕ → Type 0
      Fails i = IsUnsatisfiable (branch_question t r i)

      none_decides : All Fails (below (length (branches t r))) → HasNoDecisionMap t r
      none_decides none m decides =
          let solves = listed_solves t r m decides in
          let at = place (listed t r m) solves in
          let model = solution_at (listed t r m) at.0 solves at.1 in
          each_in Fails (below (length (branches t r))) at.0 (recursion_from_All Fails (below (length (branches t r))) none) (in_below (length (branches t r)) at.0 at.1.0) model.0 model.1

      none_models : HasNoDecisionMap t r → All Fails (below (length (branches t r)))
      none_models none =
          All-from_recursion Fails (below (length (branches t r))) (each_from_in Fails (below (length (branches t r)))
          (λ i there a model. (unsatisfiable_where t r task).1 none a (whole_model (problem_of t r) (branch_at t r i) a model)))

  pub least_in_first : (i : ℕ) → i < length (branches t r) → ((j : ℕ) → j < i → IsUnsatisfiable (branch_question t r j)) → HasModel (branch_question t r i)
      → (m : View → ℕ) × IsLeast t r m × LiesAt (listed t r m) (branches t r) i
  least_in_first i low before model = by_answer (canonical (problem_of t r) (root (problem_of t r))).map refl
    where
      long : length (branch_at t r i) ≡ (problem_of t r).points
      long = (split_closed (problem_of t r) (task_well_formed t r task) i [] low).is_box.long

      is : IsSolutionIn (problem_of t r) (branch_at t r i) (map_in (problem_of t r) model.0)
      is = gives_solution_in (problem_of t r) (branch_at t r i) model.0 (task_well_formed t r task) (task_full t r task) long model.1

      least_there : (m : View → ℕ) → IsLeast t r m → LiesAt (listed t r m) (branches t r) i
      least_there m least =
          let solves = listed_solves t r m least.decides in
          let at = place (listed t r m) solves in
          let upto = subst (λ list. (listed t r m ≡ list) ⊎ IsBelow (listed t r m) list) (listed_by_number t r (map_in (problem_of t r) model.0) is.solves.long)
          (least.least (map_by_number t r (map_in (problem_of t r) model.0)) (solution_decides t r (map_in (problem_of t r) model.0) is.solves)) in
          elim (cases_order at.0 i) [
            | inl same ↦ subst (LiesAt (listed t r m) (branches t r)) same at.1
            | inr (inl less) ↦ let earlier = solution_at (listed t r m) at.0 solves at.1 in absurd (before at.0 less earlier.0 earlier.1)
            | inr (inr more) ↦
                let later = in_order (problem_of t r) (root (problem_of t r)) (branches t r) (split_covers (problem_of t r) (task_well_formed t r task)) i at.0 (map_in (problem_of t r) model.0) (listed t r m) more (low, is.lies) at.1 in
                absurd (elim upto [
                  | inl equal ↦ below_itself (listed t r m) (subst (λ list. IsBelow list (listed t r m)) (sym equal) later)
                  | inr smaller ↦ below_one_way (listed t r m) (map_in (problem_of t r) model.0) smaller later
                ])
          ]

      by_answer : (o : Option (List ℕ)) → (canonical (problem_of t r) (root (problem_of t r))).map ≡ o → (m : View → ℕ) × IsLeast t r m × LiesAt (listed t r m) (branches t r) i
      by_answer None eq = absurd (answer_none t r task eq (map_by_number t r (map_in (problem_of t r) model.0)) (solution_decides t r (map_in (problem_of t r) model.0) is.solves))
      by_answer (Some m) eq = let least = answer_least t r m task eq in (map_by_number t r m, least, least_there (map_by_number t r m) least)
