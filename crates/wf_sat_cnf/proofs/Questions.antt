-- The clauses of a task's executions, by its protocol complex.
use Rattle.std.proofs.Common.{rules, ◌≡◌, ℕ, ◌+◌, ◌*◌, ◌<◌, ◌≤◌, true, List, [], ◌∷◌, ◌++◌, map, flat_map, zip, length, take, get_or, slice_index, All, Some, option_map, slice_get, length-append, append_assoc, append-nil, Option, None, codes, refl, sym, ap, ◌∙◌, subst, arith}
use Rattle.std.specs.List.{AllByRecursion, enumerate_from, slice_index_or}
use Rattle.std.proofs.lemmas.List.{length-map, get_or-map, take_more}
use Rattle.std.proofs.lemmas.List.Elements.{All-from_recursion}
use Rattle.std.proofs.lemmas.Option.{slice_get-get_or, slice_get_within}
use Rattle.std.proofs.lemmas.Slice.Zip.{seconds-zip}
use Rattle.wf_model.specs.Lists.{below}
use Rattle.wf_model.specs.Limits.{most_points}
use Rattle.wf_model.specs.Simplex.{Simplex, processes_of}
use Rattle.wf_model.specs.Task as task
use Rattle.wf_model.specs.Task.{Task, Tuple, inputs, values, first_block}
use Rattle.wf_model.specs.Execution.{executions_on, executions}
use Rattle.wf_model.specs.Points.{points}
use Rattle.wf_model.specs.Report.{line}
use Rattle.wf_model.specs.Box.{Box}
use Rattle.wf_model.specs.Problem.{Constraint, Participant, problem_of, constraint_of, no_constraint}
use Rattle.wf_model.proofs.Lemmas.{by_place, length-below, weaker}
use Rattle.wf_complex.specs.Protocol.{Built, IsProtocol}
use Rattle.wf_complex.proofs.Lemmas.{constraint_there, got, known_points, rule_there, as_many_constraints}
use Rattle.wf_base.specs.Set.Sets.{values_in}
use Rattle.wf_sat_text.specs.Clauses.Formula.{Formula}
use Rattle.wf_sat_formula.specs.Branches.{branch_line, exclusions}
use Rattle.wf_sat_formula.specs.Patterns.{Entry, Pattern, is_forbidden, minimal_patterns}
use Rattle.wf_sat_formula.specs.Encoding.{denied, clauses_of, at_least_one, question}
use Rattle.wf_sat_formula.specs.Dimacs.{clause_text, comments, comments_with, formula_text, numbering_line}
use Rattle.wf_sat_formula.proofs.Lemmas.{each_below, IsEntry, each_minimal}
use Rattle.wf_sat_cnf.specs.Clauses.{denied_at, points_in, patterns_in, clauses_at, clauses_on, patterns_of, HasPoints, AreCovered}
use Rattle.wf_sat_cnf.specs.Exclusions.{clauses_with, exclusions_at, exclusions_on, Fits, line_in, part_text, sets_in}
use Rattle.wf_sat_cnf.specs.Head.{head_text}
use Rattle.wf_sat_cnf.specs.Questions.{text_after}
use Rattle.wf_sat_cnf.specs.declared.exclusions.Branch.{Branch}
use Rattle.wf_sat_cnf.specs.declared.head.Counts.{Counts}

-- ---- the patterns of the input simplices

pub rule_more : (t : Task) (n : ℕ) (s d : Simplex) (tuples : List Tuple) (before : List (List Pattern)) (pattern : List Pattern)
    → s ≡ get_or (inputs t) n d → n < length (inputs t) → option_map (λ rule. rule.tuples) (slice_get t.delta n) ≡ Some tuples
    → pattern ≡ minimal_patterns (length s) (values t) tuples → before ≡ take n (patterns_of t) → before ++ pattern ∷ [] ≡ take (n + 1) (patterns_of t)
rule_more t n s d tuples before pattern is low there found so_far =
    let rule : task.Rule = record { input = s; tuples = tuples } in
    let at : slice_get t.delta n ≡ Some rule = rule_there t n s d tuples is low there in
    let inside : n < length t.delta = slice_get_within t.delta n rule at in
    let here : get_or (patterns_of t) n [] ≡ minimal_patterns (length s) (values t) tuples =
    get_or-map (λ (rule : task.Rule). minimal_patterns (length rule.input) (values t) rule.tuples) t.delta n rule [] inside
    ∙ ap (λ (rule : task.Rule). minimal_patterns (length rule.input) (values t) rule.tuples) (got t.delta n rule rule at) in
    (λ i. so_far i ++ (found ∙ sym here) i ∷ [])
    ∙ sym (take_more (patterns_of t) n [] (omega (arith, inside, length-map t.delta (λ (rule : task.Rule). minimal_patterns (length rule.input) (values t) rule.tuples))))

-- ---- each execution has a simplex

as_many : (m r : ℕ) (rules : List task.Rule) (n : ℕ) → length (flat_map (λ at. map (λ e. at.0) (executions_on m r at.1)) (enumerate_from n rules)) ≡ length (flat_map (executions_on m r) rules)
as_many m r [] n = refl
as_many m r (rule ∷ rules) n =
    length-append (map (λ e. n) (executions_on m r rule)) (flat_map (λ at. map (λ e. at.0) (executions_on m r at.1)) (enumerate_from (n + 1) rules))
    ∙ (λ i. length-map (executions_on m r rule) (λ e. n) i + as_many m r rules (n + 1) i)
    ∙ sym (length-append (executions_on m r rule) (flat_map (executions_on m r) rules))

simplex_there : (t : Task) (r : ℕ) (b : Built) (e : ℕ) → IsProtocol t r b → e < length b.scopes → slice_get b.simplices e ≡ Some (slice_index b.simplices e)
simplex_there t r b e h low =
    let long : length b.simplices ≡ length (executions t r) = ap length h.simplices_are ∙ as_many (first_block t) r t.delta 0 in
    let same : length (problem_of t r).constraints ≡ length (executions t r) = length-map (executions t r) (constraint_of t (points t r)) in
    slice_get-get_or b.simplices e 0 (omega (arith, low, long, same, as_many_constraints t r b h))

-- the rule of an execution, with its patterns
record RuleOf (t : Task) (r : ℕ) (b : Built) (e : ℕ) : Type 0 where
  rule : task.Rule
  inside : slice_index b.simplices e < length (patterns_of t)
  found : patterns_in (patterns_of t) b e ≡ minimal_patterns (length rule.input) (values t) rule.tuples
  long : length (points_in b e) ≡ length rule.input
  there : slice_get (problem_of t r).constraints e ≡ Some (record { scope = zip (processes_of rule.input) (points_in b e); tuples = rule.tuples })

rule_of : (t : Task) (r : ℕ) (b : Built) (e : ℕ) → IsProtocol t r b → e < length b.scopes → RuleOf t r b e
rule_of t r b e h low =
    let s = slice_index b.simplices e in
    let (rule, at, there, long) = constraint_there t r b e s h low (simplex_there t r b e h low) in
    let f = λ (rule : task.Rule). minimal_patterns (length rule.input) (values t) rule.tuples in
    let within : s < length t.delta = slice_get_within t.delta s rule at in
    record {
      rule = rule;
      inside = omega (arith, within, length-map t.delta f);
      found = get_or-map f t.delta s rule [] within ∙ ap f (got t.delta s rule rule at);
      long = length-map (slice_index_or b.scopes e []) (λ (at : Participant). at.1) ∙ long;
      there = there;
    }

pub covered : (t : Task) (r : ℕ) (b : Built) (patterns : List (List Pattern)) → IsProtocol t r b → length b.points ≤ most_points → patterns ≡ patterns_of t → AreCovered patterns b
covered t r b patterns h few is = subst (λ ps. AreCovered ps b) (sym is) each
  where
    each : AreCovered (patterns_of t) b
    each e low =
        let at = rule_of t r b e h low in
        let known = known_points t r b e (slice_index b.simplices e) (points_in b e) h low (simplex_there t r b e h low) refl in
        record {
          simplex = at.inside;
          places = subst (All (HasPoints (points_in b e))) (sym at.found)
              (All-from_recursion (HasPoints (points_in b e)) (minimal_patterns (length at.rule.input) (values t) at.rule.tuples)
              (weaker (λ q. AllByRecursion (IsEntry (length at.rule.input) (values t)) q × (is_forbidden at.rule.tuples q ≡ true)) (HasPoints (points_in b e))
              (λ q k. All-from_recursion (λ (x : Entry). x.0 < length (points_in b e)) q (weaker (IsEntry (length at.rule.input) (values t)) (λ (x : Entry). x.0 < length (points_in b e)) (λ x entry. omega (arith, entry.0, at.long)) q k.0))
              (minimal_patterns (length at.rule.input) (values t) at.rule.tuples) (each_minimal (length at.rule.input) (values t) at.rule.tuples)));
          few = λ i d inside. omega (arith, known.2 i d inside, few);
        }

-- ---- the clauses are those of the problem

flat_mapped : {X Y Z : Type 0} (g : Y → List Z) (f : X → Y) (xs : List X) → flat_map g (map f xs) ≡ flat_map (λ x. g (f x)) xs
flat_mapped g f [] = refl
flat_mapped g f (x ∷ xs) = ap (λ zs. g (f x) ++ zs) (flat_mapped g f xs)

flat_each : {X Y : Type 0} (f g : X → List Y) (xs : List X) → AllByRecursion (λ x. f x ≡ g x) xs → flat_map f xs ≡ flat_map g xs
flat_each f g [] h = refl
flat_each f g (x ∷ xs) h = λ i. h.0 i ++ flat_each f g xs h.1 i

clauses_here : (t : Task) (r : ℕ) (b : Built) (e : ℕ) → IsProtocol t r b → e < length b.scopes
    → clauses_at (values t) (patterns_of t) b e ≡ clauses_of (values t) (get_or (problem_of t r).constraints e no_constraint)
clauses_here t r b e h low =
    let at = rule_of t r b e h low in
    let scope = zip (processes_of at.rule.input) (points_in b e) in
    let k : Constraint = record { scope = scope; tuples = at.rule.tuples } in
    let same_long : length (points_in b e) ≡ length (processes_of at.rule.input) = at.long ∙ sym (length-map at.rule.input (λ v. v.0)) in
    let seconds : map (λ (at : Participant). at.1) scope ≡ points_in b e = seconds-zip (processes_of at.rule.input) (points_in b e) same_long in
    let long : length scope ≡ length at.rule.input = sym (length-map scope (λ (at : Participant). at.1)) ∙ ap length seconds ∙ at.long in
    (λ i. map (denied_at (values t) (sym seconds i)) (at.found i))
    ∙ (λ i. map (denied (values t) scope) (minimal_patterns (sym long i) (values t) at.rule.tuples))
    ∙ ap (clauses_of (values t)) (sym (got (problem_of t r).constraints e k no_constraint at.there))

clauses_same : (t : Task) (r : ℕ) (b : Built) → IsProtocol t r b → clauses_on (values t) (patterns_of t) b ≡ flat_map (clauses_of (values t)) (problem_of t r).constraints
clauses_same t r b h =
    let ks = (problem_of t r).constraints in
    let n = length b.scopes in
    flat_each (clauses_at (values t) (patterns_of t) b) (λ e. clauses_of (values t) (get_or ks e no_constraint)) (below n)
    (weaker (λ e. e < n) (λ e. clauses_at (values t) (patterns_of t) b e ≡ clauses_of (values t) (get_or ks e no_constraint)) (λ e low. clauses_here t r b e h low) (below n) (each_below n))
    ∙ ap (λ n. flat_map (λ e. clauses_of (values t) (get_or ks e no_constraint)) (below n)) (as_many_constraints t r b h)
    ∙ sym (flat_mapped (clauses_of (values t)) (λ e. get_or ks e no_constraint) (below (length ks)))
    ∙ ap (flat_map (clauses_of (values t))) (by_place ks no_constraint)

-- the clauses that rule out what a box with all points has not
pub exclusions_same : (t : Task) (r : ℕ) (b : Built) (all : List ℕ) (box : Box) → IsProtocol t r b → all ≡ values t → length box ≡ length b.points
    → exclusions_on all box ≡ exclusions (problem_of t r) box
exclusions_same t r b all box h all_is long = λ i. flat_map (exclusions_at (all_is i) box) (below ((long ∙ ap length h.points_are) i))

-- the clauses that are given are those of the question, and what rules out what the box has not
pub given_are : (t : Task) (r : ℕ) (b : Built) (all : List ℕ) (patterns : List (List Pattern)) (box : Box) → IsProtocol t r b → all ≡ values t → patterns ≡ patterns_of t
    → clauses_with all patterns b box ≡ (question t r).clauses ++ exclusions_on (values t) box
given_are t r b all patterns box h all_is patterns_are =
    let on = (λ i. clauses_on (all_is i) (patterns_are i) b) ∙ clauses_same t r b h in
    (λ i. map (at_least_one (all_is i)) (below (length (h.points_are i))) ++ (on i ++ exclusions_on (all_is i) box))
    ∙ sym (append_assoc (map (at_least_one (values t)) (below (problem_of t r).points)) (flat_map (clauses_of (values t)) (problem_of t r).constraints) (exclusions_on (values t) box))

-- a branch that fits has as few points
pub few_sets : (branch : Option Branch) (b : Built) → Fits branch b → length b.points ≤ most_points → length (sets_in branch) ≤ most_points
few_sets None b fits few = omega arith
few_sets (Some branch) b fits few = omega (arith, fits, few)

-- ---- the whole text

regrouped : (a b c d e f v n p body : List ℕ) → ((a ++ (b ++ (c ++ (d ++ e)))) ++ (f ++ (v ++ (n ++ p)))) ++ body ≡ (a ++ (b ++ (c ++ (d ++ (e ++ (f ++ (v ++ n))))))) ++ (p ++ body)
regrouped a b c d e f v n p body = search (rules, append_assoc)

-- what is known of the numbers of a question
pub record AreCounts (t : Task) (b : Built) (n : Counts) (all : List ℕ) (patterns : List (List Pattern)) (box : Box) : Type 0 where
  pub processes : n.processes ≡ t.processes
  pub rounds : n.rounds ≡ b.rounds
  pub points : n.points ≡ length b.points
  pub executions : n.executions ≡ length b.scopes
  pub variables : n.variables ≡ length b.points * length all
  pub clauses : n.clauses ≡ (length b.points + length (clauses_on all patterns b)) + length (exclusions_on all box)

module _ (t : Task) (r : ℕ) (b : Built) (n : Counts) (all : List ℕ) (patterns : List (List Pattern)) (further : List ℕ) (box : Box)
    (h : IsProtocol t r b) (all_is : all ≡ values t) (patterns_are : patterns ≡ patterns_of t) (counts : AreCounts t b n all patterns box) where
  -- the formula with the clauses that rule out what the box has not
  formula : Formula
  formula = record {
    variables = (question t r).variables;
    clauses = (question t r).clauses ++ exclusions_on (values t) box;
  }

  of_question : Counts
  unfolding formula
  of_question = record {
    processes = t.processes;
    rounds = r;
    points = length (points t r);
    executions = length (executions t r);
    variables = formula.variables;
    clauses = length formula.clauses;
  }

  points_are : length b.points ≡ (problem_of t r).points
  points_are = ap length h.points_are

  clauses_are : n.clauses ≡ length formula.clauses
  unfolding formula
  clauses_are =
      let first = map (at_least_one all) (below (length b.points)) in
      let second = clauses_on all patterns b in
      counts.clauses
      ∙ ap (λ m. (m + length second) + length (exclusions_on all box)) (sym (length-map (below (length b.points)) (at_least_one all) ∙ length-below (length b.points)))
      ∙ sum_of (length first) (length second) (length (exclusions_on all box))
      ∙ ap (λ m. length first + m) (sym (length-append second (exclusions_on all box)))
      ∙ sym (length-append first (second ++ exclusions_on all box))
      ∙ ap length (given_are t r b all patterns box h all_is patterns_are)
    where
      sum_of : (k m n : ℕ) → (k + m) + n ≡ k + (m + n)
      sum_of k m n = omega arith

  counts_are : n ≡ of_question
  unfolding formula of_question
  counts_are = λ i. record {
    processes = counts.processes i;
    rounds = (counts.rounds ∙ h.rounds_are) i;
    points = (counts.points ∙ points_are) i;
    executions = (counts.executions ∙ as_many_constraints t r b h ∙ length-map (executions t r) (constraint_of t (points t r))) i;
    variables = (counts.variables ∙ (λ j. points_are j * length (all_is j))) i;
    clauses = clauses_are i;
  }

  whole_text : (head : List ℕ) → head ≡ head_text n further all → text_after head all patterns b box ≡ comments_with further t r ++ formula_text formula
  unfolding formula of_question
  whole_text head is =
      (λ i. (is ∙ (λ j. head_text (counts_are j) further (all_is j))) i ++ flat_map clause_text (given_are t r b all patterns box h all_is patterns_are i))
      ∙ regrouped (line (codes "c wfcheck formula 1") []) (line (codes "c processes") (t.processes ∷ [])) (line (codes "c rounds") (r ∷ []))
      (line (codes "c points") (length (points t r) ∷ [])) (line (codes "c executions") (length (executions t r) ∷ []))
      further (line (codes "c values") (values t)) (numbering_line (values t))
      (line (codes "p cnf") (formula.variables ∷ length formula.clauses ∷ [])) (flat_map clause_text formula.clauses)

-- the text of a question, of a branch or of all maps
pub text_of_part : (t : Task) (r : ℕ) (b : Built) (n : Counts) (all : List ℕ) (patterns : List (List Pattern)) (branch : Option Branch)
    → IsProtocol t r b → all ≡ values t → patterns ≡ patterns_of t → Fits branch b → AreCounts t b n all patterns (map values_in (sets_in branch))
    → (head : List ℕ) → head ≡ head_text n (line_in branch) all → text_after head all patterns b (map values_in (sets_in branch)) ≡ part_text t r branch
unfolding formula
text_of_part t r b n all patterns None h all_is patterns_are fits counts head is =
    whole_text t r b n all patterns [] [] h all_is patterns_are counts head is
    ∙ ap (λ cs. comments t r ++ formula_text (record { variables = (question t r).variables; clauses = cs })) (append-nil (question t r).clauses)
text_of_part t r b n all patterns (Some branch) h all_is patterns_are fits counts head is =
    let box = map values_in branch.sets.now in
    let further = branch_line branch.number branch.count in
    whole_text t r b n all patterns further box h all_is patterns_are counts head is
    ∙ ap (λ cs. comments_with further t r ++ formula_text (record { variables = (question t r).variables; clauses = (question t r).clauses ++ cs }))
    (exclusions_same t r b (values t) box h refl (length-map branch.sets.now values_in ∙ fits))
