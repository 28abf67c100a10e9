-- The report of a search in the full or the least form is in the grammar: its
-- numbers are those that a line may hold.
use Rattle.std.proofs.Common.{◌≡◌, ℕ, zero, suc, ◌+◌, ◌*◌, ◌<◌, ◌≤◌, ◌==◌, true, not, nat_lt, List, [], ◌∷◌, ◌++◌, map, filter, flat_map, length, slice_set, Option, Some, None, sym, ap, ◌∙◌, subst, arith, length-append, length-set}
use Rattle.std.specs.List.{AllByRecursion}
use Rattle.std.proofs.lemmas.List.{length-map}
use Rattle.std.proofs.lemmas.List.Quantifiers.{position-Some}
use Rattle.std.proofs.lemmas.List.Elements.{recursion_from_All, All-replicate}
use Rattle.std.proofs.lemmas.Option.{slice_get_within}
use Rattle.std.proofs.Math.ListN.{length-replicate}
use Rattle.wf_model.specs.Lists.{has}
use Rattle.wf_model.specs.Simplex.{Simplex, processes_of, values_of}
use Rattle.wf_model.specs.Task.{Task, Rule, IsTask, IsSimplexWithin, inputs, values, largest_value}
use Rattle.wf_model.specs.View.{View, same_view, process_of}
use Rattle.wf_model.specs.Execution.{Execution, executions, last_views}
use Rattle.wf_model.specs.Points.{class, execution_points, points}
use Rattle.wf_model.specs.DecisionMap.{IsDecisionMap, listed}
use Rattle.wf_model.specs.Problem.{Problem, Constraint, constraint_of, problem_of}
use Rattle.wf_model.specs.Box.{Box, LiesIn, candidates, root, without, decided, branches_at, count, first_open, first_empty, is_supported_in}
use Rattle.wf_model.specs.Refutation.{Line, remove, empty, branch, found, Tree, emptied, removed, branched, ended, Trees, no_trees, tree, lines, lines_each, Refutes, RefutesEach, IsUnsupported}
use Rattle.wf_model.specs.Closing.{Step, Trace, Loss, same_candidate, continued, taken_out, take_out, take_out_each, places, lost_at, lost, sweep_from, sweep, unless_none, sweeps, closing_at, closing, before, in_turn, branching_at, branching, searched, search_within, canonical}
use Rattle.wf_model.specs.LeastTree.{IsLeastTree, LeastAmong}
use Rattle.wf_model.specs.Limits.{most_number, most_value}
use Rattle.wf_model.specs.Report.{Body, a_map, none, least, report_about}
use Rattle.wf_model.proofs.Lemmas.{each_at, weaker, each_with_value, each_has, each_append, each_flat, each_map, each_of_map, each_filter, each_distinct, always, both, lies_in_root, Leaves, point_within, task_listed, each_execution_with, last_processes, scope_processes, inputs_within, outputs_within}
use Rattle.wf_simplex.proofs.Lemmas.{length-within}
use Rattle.wf_task.proofs.Lemmas.{has_from_order}
use Rattle.wf_complex.proofs.Lemmas.{length-distinct}
use Rattle.wf_report.specs.Grammar.{IsLineWithin, IsStepWithin, IsBodyWithin, IsInGrammar, last_process}
use Rattle.wf_run.specs.Run.{HasComplex}

-- ---- the values of removed candidates

-- a value that a line may hold
pub IsSmall : ℕ → Type 0
IsSmall a = a ≤ most_value

-- each candidate is such a value
abbrev pub AreSmall : Box → Type 0
AreSmall box = AllByRecursion (λ set. AllByRecursion IsSmall set) box

-- the value of a removal is one
abbrev pub HasSmallValue : Line → Type 0
HasSmallValue (remove e c a) = IsSmall a
HasSmallValue (empty v) = Unit {0}
HasSmallValue (branch v) = Unit {0}
HasSmallValue found = Unit {0}

candidates_small : (box : Box) (v : ℕ) → AreSmall box → AllByRecursion IsSmall (candidates box v)
candidates_small [] v h = tt
candidates_small (s ∷ box) zero h = h.0
candidates_small (s ∷ box) (suc v) h = candidates_small box v h.1

set_small : (box : Box) (v : ℕ) (set : List ℕ) → AreSmall box → AllByRecursion IsSmall set → AreSmall (slice_set box v set)
set_small [] v set h k = tt
set_small (s ∷ box) zero set h k = (k, h.1)
set_small (s ∷ box) (suc v) set h k = (h.0, set_small box v set h.1 k)

without_small : (box : Box) (v a : ℕ) → AreSmall box → AreSmall (without box v a)
without_small box v a h =
    set_small box v (filter (λ b. not (b == a)) (candidates box v)) h
    (each_filter IsSmall (λ b. not (b == a)) (candidates box v) (candidates_small box v h))

pub branches_small : (box : Box) (v : ℕ) → AreSmall box → AllByRecursion AreSmall (branches_at box v)
branches_small box v h =
    each_map AreSmall (decided box v) (candidates box v)
    (weaker IsSmall (λ a. AreSmall (decided box v a)) (λ a k. set_small box v (a ∷ []) h (k, tt)) (candidates box v) (candidates_small box v h))

abbrev IsSmallLoss : Loss → Type 0
IsSmallLoss x = IsSmall x.value

losses_small : (box : Box) (k : Constraint) → AreSmall box → AllByRecursion IsSmallLoss (lost box k)
losses_small box k h =
    each_distinct IsSmallLoss same_candidate (flat_map (lost_at box k) (places k.scope))
    (each_flat IsSmallLoss (lost_at box k) (places k.scope)
    (always (λ q. AllByRecursion IsSmallLoss (lost_at box k q))
    (λ q. each_map IsSmallLoss (λ a. record { process = q.1; value = a; point = q.2 }) (filter (λ a. not (is_supported_in k box q.0 a)) (candidates box q.2))
    (each_filter IsSmall (λ a. not (is_supported_in k box q.0 a)) (candidates box q.2) (candidates_small box q.2 h))) (places k.scope)))

-- lines with small values, and a box with small candidates, if one is left
abbrev pub KeepsSmall : List Line → Option Box → Type 0
KeepsSmall ls left = AllByRecursion HasSmallValue ls × Leaves AreSmall left

continued_small : (ls : List Line) (left : Option Box) (next : Box → Step) → KeepsSmall ls left → ((b : Box) → AreSmall b → KeepsSmall (next b).lines (next b).left) →
    KeepsSmall (continued ls left next).lines (continued ls left next).left
continued_small ls None next h k = h
continued_small ls (Some b) next h k = let n = k b h.1 in (each_append HasSmallValue ls (next b).lines h.0 n.0, n.1)

taken_out_small : (e : ℕ) (x : Loss) (box : Box) (set : List ℕ) → AreSmall box → IsSmallLoss x → KeepsSmall (taken_out e x box set).lines (taken_out e x box set).left
taken_out_small e x box [] h k = ((k, (tt, tt)), tt)
taken_out_small e x box (a ∷ set) h k = ((k, tt), h)

take_out_each_small : (e : ℕ) (xs : List Loss) (box : Box) → AreSmall box → AllByRecursion IsSmallLoss xs → KeepsSmall (take_out_each e xs box).lines (take_out_each e xs box).left
take_out_each_small e [] box h k = (tt, h)
take_out_each_small e (x ∷ xs) box h k =
    continued_small (take_out e x box).lines (take_out e x box).left (take_out_each e xs)
    (taken_out_small e x (without box x.point x.value) (candidates (without box x.point x.value) x.point) (without_small box x.point x.value h) k.0)
    (λ b s. take_out_each_small e xs b s k.1)

sweep_small : (e : ℕ) (ks : List Constraint) (box : Box) → AreSmall box → KeepsSmall (sweep_from e ks box).lines (sweep_from e ks box).left
sweep_small e [] box h = (tt, h)
sweep_small e (k ∷ ks) box h =
    continued_small (take_out_each e (lost box k) box).lines (take_out_each e (lost box k) box).left (sweep_from (suc e) ks)
    (take_out_each_small e (lost box k) box h (losses_small box k h)) (sweep_small (suc e) ks)

unless_none_small : (ls : List Line) (s : Step) (next : Box → Step) → KeepsSmall s.lines s.left → ((b : Box) → AreSmall b → KeepsSmall (next b).lines (next b).left) →
    KeepsSmall (unless_none ls s next).lines (unless_none ls s next).left
unless_none_small [] s next h k = h
unless_none_small (l ∷ ls) s next h k = continued_small s.lines s.left next h k

sweeps_small : (p : Problem) (n : ℕ) (box : Box) → AreSmall box → KeepsSmall (sweeps n p box).lines (sweeps n p box).left
sweeps_small p zero box h = (tt, h)
sweeps_small p (suc n) box h = unless_none_small (sweep p box).lines (sweep p box) (sweeps n p) (sweep_small 0 p.constraints box h) (sweeps_small p n)

pub closing_small : (p : Problem) (o : Option ℕ) (box : Box) → AreSmall box → KeepsSmall (closing_at o p box).lines (closing_at o p box).left
closing_small p None box h = sweeps_small p (suc (count box)) box h
closing_small p (Some v) box h = ((tt, tt), tt)

-- a search whose lines in boxes with small candidates have small values
abbrev IsSmallSearch : (Box → Trace) → Type 0
IsSmallSearch f = (b : Box) → AreSmall b → AllByRecursion HasSmallValue (f b).lines

before_small : (ls : List Line) (o : Option (List ℕ)) (t : Trace) → AllByRecursion HasSmallValue ls → AllByRecursion HasSmallValue t.lines → AllByRecursion HasSmallValue (before ls o t).lines
before_small ls None t h k = each_append HasSmallValue ls t.lines h k
before_small ls (Some m) t h k = h

in_turn_small : (f : Box → Trace) → IsSmallSearch f → (boxes : List Box) → AllByRecursion AreSmall boxes → AllByRecursion HasSmallValue (in_turn f boxes).lines
in_turn_small f s [] h = tt
in_turn_small f s (b ∷ boxes) h = before_small (f b).lines (f b).map (in_turn f boxes) (s b h.0) (in_turn_small f s boxes h.1)

branching_small : (o : Option ℕ) (f : Box → Trace) → IsSmallSearch f → (box : Box) → AreSmall box → AllByRecursion HasSmallValue (branching_at o f box).lines
branching_small None f s box h = (tt, tt)
branching_small (Some v) f s box h = (tt, in_turn_small f s (branches_at box v) (branches_small box v h))

searched_small : (ls : List Line) (left : Option Box) (f : Box → Trace) → KeepsSmall ls left → IsSmallSearch f → AllByRecursion HasSmallValue (searched ls left f).lines
searched_small ls None f h s = h.0
searched_small ls (Some b) f h s = before_small ls None (f b) h.0 (s b h.1)

search_small : (p : Problem) (n : ℕ) → IsSmallSearch (search_within n p)
search_small p zero box h = tt
search_small p (suc n) box h =
    searched_small (closing p box).lines (closing p box).left (branching (search_within n p)) (closing_small p (first_empty box) box h)
    (λ b s. branching_small (first_open b) (search_within n p) (search_small p n) b s)

-- ---- the numbers of executions, processes and points

-- the numbers of an execution, a process and a point are those that a line
-- may hold; no map was found
abbrev IsPlaced : Line → Type 0
IsPlaced (remove e c a) = (e ≤ most_number) × (c ≤ last_process)
IsPlaced (empty v) = v ≤ most_number
IsPlaced (branch v) = v ≤ most_number
IsPlaced found = ⊥

-- the same where a map is found in the end
abbrev IsStepPlaced : Line → Type 0
IsStepPlaced (remove e c a) = IsPlaced (remove e c a)
IsStepPlaced (empty v) = IsPlaced (empty v)
IsStepPlaced (branch v) = IsPlaced (branch v)
IsStepPlaced found = Unit {0}

-- each point of the box has such a number
abbrev IsShort : Box → Type 0
IsShort box = length box ≤ most_number

decided_short : (box : Box) (v a : ℕ) → IsShort box → IsShort (decided box v a)
decided_short box v a h = subst (λ n. n ≤ most_number) (sym (length-set box v (a ∷ []))) h

branches_short : (box : Box) (v : ℕ) → IsShort box → AllByRecursion IsShort (branches_at box v)
branches_short box v h =
    each_map IsShort (decided box v) (candidates box v)
    (always (λ a. IsShort (decided box v a)) (λ a. decided_short box v a h) (candidates box v))

step_placed : (l : Line) → IsPlaced l → IsStepPlaced l
step_placed (remove e c a) h = h
step_placed (empty v) h = h
step_placed (branch v) h = h
step_placed found h = tt

-- processes that a line may hold
abbrev HasFewProcesses : Constraint → Type 0
HasFewProcesses k = AllByRecursion (λ at. at.0 ≤ last_process) k.scope

module _ (p : Problem) (few : length p.constraints ≤ most_number) (processes : AllByRecursion HasFewProcesses p.constraints) where
  lost_placed : (box : Box) (e c a v : ℕ) → IsUnsupported p box e c a v → (e ≤ most_number) × (c ≤ last_process)
  lost_placed box e c a v l =
      let within : e < length p.constraints = slice_get_within p.constraints e l.constraint l.at in
      let each : HasFewProcesses l.constraint = each_at HasFewProcesses p.constraints e l.constraint processes l.at in
      (omega (arith, within, few), each_at (λ (at : ℕ × ℕ). at.0 ≤ last_process) l.constraint.scope l.place (c, v) each l.point)

  mutual
    -- the lines of a tree that refutes
    placed : (t : Tree) (box : Box) → IsShort box → Refutes p t box → AllByRecursion IsPlaced (lines t)
    placed (emptied v) box h r = (let within : v < length box = r.0 in omega (arith, h, within), tt)
    placed (removed e c a v t) box h r =
        (lost_placed box e c a v r.0, placed t (without box v a) (subst (λ n. n ≤ most_number) (sym (length-set box v _)) h) r.1)
    placed (branched v ts) box h r =
        (let within : v < length box = point_within box v 1 r.0 in omega (arith, h, within), placed_each ts (branches_at box v) (branches_short box v h) r.1)
    placed ended box h r = absurd r

    placed_each : (ts : Trees) (boxes : List Box) → AllByRecursion IsShort boxes → RefutesEach p ts boxes → AllByRecursion IsPlaced (lines_each ts)
    placed_each no_trees boxes h r = tt
    placed_each (tree t ts) [] h r = absurd r
    placed_each (tree t ts) (box ∷ boxes) h r = each_append IsPlaced (lines t) (lines_each ts) (placed t box h.0 r.0) (placed_each ts boxes h.1 r.1)

  mutual
    -- the lines of a tree that leads to a map
    led : (m : List ℕ) (t : Tree) (box : Box) → IsShort box → IsLeastTree p m t box → AllByRecursion IsStepPlaced (lines t)
    led m (emptied v) box h r = absurd r
    led m (removed e c a v t) box h r =
        (lost_placed box e c a v r.0, led m t (without box v a) (subst (λ n. n ≤ most_number) (sym (length-set box v _)) h) r.1)
    led m (branched v ts) box h r =
        let within : v < length box = (position-Some (λ (set : List ℕ). nat_lt 1 (length set)) box v [] r.0).0 in
        (omega (arith, h, within), led_among m v ts box (candidates box v) h r.1)
    led m ended box h r = (tt, tt)

    led_among : (m : List ℕ) (v : ℕ) (ts : Trees) (box : Box) (values : List ℕ) → IsShort box → LeastAmong p m v ts box values → AllByRecursion IsStepPlaced (lines_each ts)
    led_among m v no_trees box values h r = absurd r
    led_among m v (tree t ts) box [] h r = absurd r
    led_among m v (tree t no_trees) box (a ∷ values) h r =
        each_append IsStepPlaced (lines t) [] (led m t (decided box v a) (decided_short box v a h) r.1) tt
    led_among m v (tree t (tree u us)) box (a ∷ values) h r =
        each_append IsStepPlaced (lines t) (lines_each (tree u us))
        (weaker IsPlaced IsStepPlaced step_placed (lines t) (placed t (decided box v a) (decided_short box v a h) r.1))
        (led_among m v (tree u us) box values h r.3)

line_within : (l : Line) → IsPlaced l → HasSmallValue l → IsLineWithin l
unfolding IsSmall
line_within (remove e c a) h k = (h.0, h.1, k)
line_within (empty v) h k = h
line_within (branch v) h k = h
line_within found h k = h

step_within : (l : Line) → IsStepPlaced l → HasSmallValue l → IsStepWithin l
unfolding IsSmall
step_within (remove e c a) h k = (h.0, h.1, k)
step_within (empty v) h k = h
step_within (branch v) h k = h
step_within found h k = tt

-- a line that was read has a small value
pub line_small : (l : Line) → IsLineWithin l → HasSmallValue l
unfolding IsSmall
line_small (remove e c a) h = h.2
line_small (empty v) h = tt
line_small (branch v) h = tt
line_small found h = tt

pub step_small : (l : Line) → IsStepWithin l → HasSmallValue l
unfolding IsSmall
step_small (remove e c a) h = h.2
step_small (empty v) h = tt
step_small (branch v) h = tt
step_small found h = tt

-- ---- a task

-- a list of at most so many for each element
flat_few : {X Y : Type 0} (n : ℕ) (f : X → List Y) (xs : List X) → AllByRecursion (λ x. length (f x) ≤ n) xs → length (flat_map f xs) ≤ length xs * n
-- a list of at most so many for each element
flat_few n f [] h = omega arith
-- a list of at most so many for each element
flat_few n f (x ∷ xs) h =
    let here : length (f x) ≤ n = h.0 in
    let joined : length (f x ++ flat_map f xs) ≡ length (f x) + length (flat_map f xs) = length-append (f x) (flat_map f xs) in
    let e : suc (length xs) * n ≡ n + length xs * n = grind arith in
    omega (arith, here, joined, e, flat_few n f xs h.1)

module _ (t : Task) (r : ℕ) (task : IsTask t) where
  IsInput : Simplex → Type 0
  IsInput s = IsSimplexWithin t.processes (largest_value t.least_block) s

  processes_within : (s : Simplex) → IsInput s → AllByRecursion (λ x. x ≤ last_process) (processes_of s)
  unfolding IsInput
  processes_within s h =
      weaker (λ x. x < t.processes) (λ x. x ≤ last_process) (λ x k. omega (arith, k, task.limits.processes)) (processes_of s) (recursion_from_All _ (processes_of s) h.processes)

  inputs_few : (s : Simplex) → IsInput s → length s ≤ 4
  unfolding IsInput
  inputs_few s h = omega (arith, length-within t.processes (largest_value t.least_block) s h, task.limits.processes)

  rules_have : AllByRecursion (λ rule. IsInput rule.input) t.delta
  unfolding IsInput
  rules_have = each_of_map IsInput (λ (rule : Rule). rule.input) t.delta (recursion_from_All _ (inputs t) (inputs_within t task))

  executions_have : (P : Execution → Type 0) → ((e : Execution) → IsInput e.rule.input → map process_of (last_views e) ≡ processes_of e.rule.input → P e) → AllByRecursion P (executions t r)
  executions_have P f = each_execution_with P t r (λ rule. IsInput rule.input) rules_have (λ e s long. f e s (last_processes e long))

  constraints_have : AllByRecursion HasFewProcesses (problem_of t r).constraints
  constraints_have =
      each_map HasFewProcesses (constraint_of t (points t r)) (executions t r)
      (executions_have (λ e. HasFewProcesses (constraint_of t (points t r) e))
      (λ e s same. each_of_map (λ x. x ≤ last_process) (λ (at : ℕ × ℕ). at.0) (constraint_of t (points t r) e).scope
      (subst (AllByRecursion (λ x. x ≤ last_process)) (sym (scope_processes t (points t r) (last_views e) ∙ same)) (processes_within e.rule.input s))))

  -- at most four points for each execution
  pub points_few : length (points t r) ≤ length (executions t r) * 4
  points_few =
      let all : length (flat_map (execution_points t) (executions t r)) ≤ length (executions t r) * 4 = flat_few 4 (execution_points t) (executions t r)
      (executions_have (λ e. length (execution_points t e) ≤ 4)
      (λ e s same. let long : length (execution_points t e) ≡ length e.rule.input =
      length-map (last_views e) (class t) ∙ sym (length-map (last_views e) process_of) ∙ ap length same ∙ length-map e.rule.input (λ v. v.0) in
      omega (arith, long, inputs_few e.rule.input s))) in
      let fewer : length (points t r) ≤ length (flat_map (execution_points t) (executions t r)) = length-distinct same_view (flat_map (execution_points t) (executions t r)) in
      omega (arith, all, fewer)

-- ---- the values of a task and of a map

small_map : (m : List ℕ) (box : Box) → AreSmall box → LiesIn m box → AllByRecursion IsSmall m
small_map [] box h lies = tt
small_map (a ∷ m) [] h lies = absurd lies
small_map (a ∷ m) (s ∷ box) h lies = (each_with_value IsSmall s a h.0 lies.0, small_map m box h.1 lies.1)

-- no task has a larger value
largest_is : (o : Option ℕ) → largest_value o ≤ most_value
largest_is None = omega arith
largest_is (Some m) = omega arith

module _ (t : Task) (r : ℕ) (task : IsTask t) where
  outputs_small : AllByRecursion IsSmall (flat_map values_of t.outputs)
  unfolding IsSmall
  outputs_small =
      each_flat IsSmall values_of t.outputs
      (weaker (IsSimplexWithin t.processes (largest_value t.least_block)) (λ s. AllByRecursion IsSmall (values_of s))
      (λ s h. weaker (λ x. x ≤ largest_value t.least_block) IsSmall (λ x k. omega (arith, k, largest_is t.least_block)) (values_of s) (recursion_from_All _ (values_of s) h.values))
      t.outputs (recursion_from_All _ t.outputs (outputs_within t task)))

  pub values_small : AllByRecursion IsSmall (values t)
  values_small =
      let all = flat_map values_of t.outputs in
      weaker (λ a. has (values t) a ≡ true) IsSmall (λ a h. each_with_value IsSmall all a outputs_small (has_from_order a all h)) (values t) (each_has (values t))

  pub root_small : AreSmall (root (problem_of t r))
  root_small = recursion_from_All _ (root (problem_of t r)) (All-replicate (λ set. AllByRecursion IsSmall set) (length (points t r)) (values t) values_small)

  module _ (within : HasComplex t r) where
    few_points : length (points t r) ≤ most_number
    few_points = omega (arith, points_few t r task, within.1.1)

    -- the report is in the grammar where its body is
    about_within : (body : Body) → IsBodyWithin body → IsInGrammar (report_about t r body)
    about_within body h = record {
      processes = omega (arith, task.limits.processes);
      rounds = omega (arith, within.1.0);
      points = few_points;
      executions = omega (arith, within.1.1);
      body = h;
    }

    -- a report of a decision map
    pub map_within : (m : View → ℕ) → IsDecisionMap t r m → IsInGrammar (report_about t r (a_map (listed t r m)))
    unfolding IsSmall
    map_within m decides =
        about_within (a_map (listed t r m)) (small_map (listed t r m) (root (problem_of t r)) root_small (lies_in_root t r m (task_listed t task) decides))

    as_many : length (problem_of t r).constraints ≤ most_number
    as_many = let e : length (problem_of t r).constraints ≡ length (executions t r) = length-map (executions t r) (constraint_of t (points t r)) in omega (arith, e, within.1.1)

    short_root : IsShort (root (problem_of t r))
    short_root = subst (λ n. n ≤ most_number) (sym (length-replicate (problem_of t r).points (problem_of t r).values)) few_points

    canonical_small : AllByRecursion HasSmallValue (canonical (problem_of t r) (root (problem_of t r))).lines
    canonical_small = search_small (problem_of t r) (suc (count (root (problem_of t r)))) (root (problem_of t r)) root_small

    -- a report of a refutation with lines that have small values
    pub small_none_within : (shape : Tree) (ls : List Line) → lines shape ≡ ls → Refutes (problem_of t r) shape (root (problem_of t r)) → AllByRecursion HasSmallValue ls → IsInGrammar (report_about t r (none ls))
    small_none_within shape ls same refutes small =
        let p = problem_of t r in
        about_within (none ls)
        (both IsPlaced HasSmallValue IsLineWithin line_within ls
        (subst (AllByRecursion IsPlaced) same (placed p as_many (constraints_have t r task) shape (root p) short_root refutes))
        small)

    -- a report of a decision map with such lines, which lead to it
    pub small_least_within : (m : View → ℕ) → IsDecisionMap t r m → (shape : Tree) (ls : List Line) → lines shape ≡ ls → IsLeastTree (problem_of t r) (listed t r m) shape (root (problem_of t r)) →
        AllByRecursion HasSmallValue ls → IsInGrammar (report_about t r (least (listed t r m) ls))
    small_least_within m decides shape ls same leads small =
        let p = problem_of t r in
        about_within (least (listed t r m) ls) (
          (map_within m decides).body,
          both IsStepPlaced HasSmallValue IsStepWithin step_within ls
              (subst (AllByRecursion IsStepPlaced) same (led p as_many (constraints_have t r task) (listed t r m) shape (root p) short_root leads))
              small,
        )

    -- a report of a refutation with the lines of the canonical search
    pub none_within : (shape : Tree) → lines shape ≡ (canonical (problem_of t r) (root (problem_of t r))).lines → Refutes (problem_of t r) shape (root (problem_of t r)) →
        IsInGrammar (report_about t r (none (canonical (problem_of t r) (root (problem_of t r))).lines))
    none_within shape same refutes = small_none_within shape (canonical (problem_of t r) (root (problem_of t r))).lines same refutes canonical_small

    -- a report of a decision map with the lines of the canonical search, which lead to it
    pub least_within : (m : View → ℕ) → IsDecisionMap t r m → (shape : Tree) → lines shape ≡ (canonical (problem_of t r) (root (problem_of t r))).lines → IsLeastTree (problem_of t r) (listed t r m) shape (root (problem_of t r)) →
        IsInGrammar (report_about t r (least (listed t r m) (canonical (problem_of t r) (root (problem_of t r))).lines))
    least_within m decides shape same leads = small_least_within m decides shape (canonical (problem_of t r) (root (problem_of t r))).lines same leads canonical_small
