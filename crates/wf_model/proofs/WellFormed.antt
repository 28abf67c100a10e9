-- What a task has: its tuples have values of O, and its problems are well formed.
use Rattle.std.proofs.Common.{◌≡◌, ℕ, zero, suc, ◌<◌, ◌==◌, ◌&&◌, true, List, [], ◌∷◌, map, flat_map, fold, zip, length, get_or, Contains, sym, refl, ap, ◌∙◌, subst, arith}
use Rattle.std.specs.List.{AllByRecursion}
use Rattle.std.proofs.lemmas.Bool.{and_parts, or_left, or_right, false≢true}
use Rattle.std.proofs.lemmas.List.{length-map}
use Rattle.std.proofs.lemmas.List.Elements.{recursion_from_All, All-from_recursion}
use Rattle.std.proofs.lemmas.List.Folds.{list_any-append}
use Rattle.wf_model.specs.Lists.{has, lists_of, below}
use Rattle.wf_model.specs.Simplex.{Simplex, processes_of, values_of, is_simplex, is_nonempty, is_ascending}
use Rattle.wf_model.specs.Word.{Word, is_word, is_allowed, words}
use Rattle.wf_model.specs.View.{View, Views, seen, views_of, visible, process_of, base_views, round}
use Rattle.wf_model.specs.Task.{Task, Tuple, Rule, IsTask, IsRule, IsSimplexWithin, HasListedValues, values, inputs, first_block, largest_value}
use Rattle.wf_model.specs.Execution.{Execution, executions, executions_on, last_views}
use Rattle.wf_model.specs.Points.{class, points}
use Rattle.wf_model.specs.Problem.{Constraint, number_of, constraint_of, problem_of, IsWellFormed}
use Rattle.wf_model.proofs.Tasks.{inputs_within}
use Rattle.wf_model.proofs.MapsAreSolutions.{weaker}
use Rattle.wf_model.proofs.Headline.{each_flat, each_map, each_of_map, each_filter, both, always, problem_in_range}
use Rattle.wf_model.proofs.LastSweep.{each_has}
use Rattle.wf_model.proofs.Ascending.{in_order_ascends, has_in_order}

-- ---- the values of tuples

has_flat : {X : Type 0} (f : X → List ℕ) (xs : List X) (k z : ℕ) (d : X) → k < length xs → has (f (get_or xs k d)) z ≡ true → has (flat_map f xs) z ≡ true
has_flat f [] k z d h is = absurd (let none : ⊥ = omega (arith, h) in none)
has_flat f (x ∷ xs) zero z d h is = list_any-append (λ y. y == z) (f x) (flat_map f xs) ∙ or_left (has (f x) z) _ is
has_flat f (x ∷ xs) (suc k) z d h is = list_any-append (λ y. y == z) (f x) (flat_map f xs) ∙ or_right (has (f x) z) _ (has_flat f xs k z d (omega (arith, h)) is)

pub values_of_zip : (ps tuple : List ℕ) → length tuple ≡ length ps → values_of (zip ps tuple) ≡ tuple
values_of_zip [] [] h = refl
values_of_zip [] (x ∷ tuple) h = absurd (let none : ⊥ = cc in none)
values_of_zip (p ∷ ps) [] h = absurd (let none : ⊥ = cc in none)
values_of_zip (p ∷ ps) (x ∷ tuple) h = ap (λ xs. x ∷ xs) (values_of_zip ps tuple (let e : length tuple ≡ length ps = cc in e))

tuple_listed : (t : Task) (rule : Rule) (tuple : Tuple) → length tuple ≡ length rule.input → Contains t.outputs (zip (processes_of rule.input) tuple) → AllByRecursion (λ x. has (values t) x ≡ true) tuple
tuple_listed t rule tuple long (k, within, is) =
    let s = zip (processes_of rule.input) tuple in
    let same : values_of s ≡ tuple = values_of_zip (processes_of rule.input) tuple (long ∙ sym (length-map rule.input (λ v. v.0))) in
    weaker (λ x. has tuple x ≡ true) (λ x. has (values t) x ≡ true)
    (λ x h. has_in_order x (flat_map values_of t.outputs) (has_flat values_of t.outputs k x s within
    (subst (λ (o : Simplex). has (values_of o) x ≡ true) (sym is) (subst (λ xs. has xs x ≡ true) (sym same) h))))
    tuple (each_has tuple)

-- each value of a tuple occurs in O
pub task_listed : (t : Task) → IsTask t → HasListedValues t
task_listed t task =
    weaker (IsRule t.outputs) (λ rule. AllByRecursion (λ tuple. AllByRecursion (λ x. has (values t) x ≡ true) tuple) rule.tuples)
    (λ rule is. both (λ tuple. length tuple ≡ length rule.input) (λ tuple. Contains t.outputs (zip (processes_of rule.input) tuple)) (λ tuple. AllByRecursion (λ x. has (values t) x ≡ true) tuple)
    (tuple_listed t rule) rule.tuples (recursion_from_All _ rule.tuples is.long) (recursion_from_All _ rule.tuples is.listed))
    t.delta (recursion_from_All _ t.delta task.decision.rules)

-- ---- the processes of an execution

lists_long : {X : Type 0} (xs : List X) (n : ℕ) → AllByRecursion (λ list. length list ≡ n) (lists_of xs n)
lists_long xs zero = (refl, tt)
lists_long xs (suc n) =
    each_flat (λ list. length list ≡ suc n) (λ x. map (λ rest. x ∷ rest) (lists_of xs n)) xs
    (always (λ x. AllByRecursion (λ list. length list ≡ suc n) (map (λ rest. x ∷ rest) (lists_of xs n)))
    (λ x. each_map (λ list. length list ≡ suc n) (λ rest. x ∷ rest) (lists_of xs n) (weaker (λ list. length list ≡ n) (λ list. suc (length list) ≡ suc n) (λ list h. ap suc h) (lists_of xs n) (lists_long xs n))) xs)

pub words_long : (m n : ℕ) → AllByRecursion (λ w. length w ≡ n) (words m n)
words_long m n = each_filter (λ w. length w ≡ n) (λ w. is_word w && is_allowed m w) (lists_of (below n) n) (lists_long (below n) n)

-- what holds of each element holds of those of each list of them
pub each_of_lists : {X : Type 0} (P : X → Type 0) (xs : List X) (r : ℕ) → AllByRecursion P xs → AllByRecursion (AllByRecursion P) (lists_of xs r)
each_of_lists P xs zero h = (tt, tt)
each_of_lists P xs (suc r) h =
    each_flat (AllByRecursion P) (λ x. map (λ rest. x ∷ rest) (lists_of xs r)) xs
    (weaker P (λ x. AllByRecursion (AllByRecursion P) (map (λ rest. x ∷ rest) (lists_of xs r)))
    (λ x p. each_map (AllByRecursion P) (λ rest. x ∷ rest) (lists_of xs r) (weaker (AllByRecursion P) (λ rest. P x × AllByRecursion P rest) (λ rest q. (p, q)) (lists_of xs r) (each_of_lists P xs r h))) xs h)

-- what holds of each execution over words as long as its input
pub each_execution_with : (P : Execution → Type 0) (t : Task) (r : ℕ) (Q : Rule → Type 0) → AllByRecursion Q t.delta →
    ((e : Execution) → Q e.rule → AllByRecursion (λ w. length w ≡ length e.rule.input) e.words → P e) → AllByRecursion P (executions t r)
each_execution_with P t r Q rules f =
    each_flat P (executions_on (first_block t) r) t.delta
    (weaker Q (λ rule. AllByRecursion P (executions_on (first_block t) r rule))
    (λ rule q. each_map P (λ ws. record { rule = rule; words = ws }) (lists_of (words (first_block t) (length rule.input)) r)
    (weaker (AllByRecursion (λ (w : Word). length w ≡ length rule.input)) (λ ws. P (record { rule = rule; words = ws })) (λ ws long. f (record { rule = rule; words = ws }) q long)
    (lists_of (words (first_block t) (length rule.input)) r) (each_of_lists (λ (w : Word). length w ≡ length rule.input) (words (first_block t) (length rule.input)) r (words_long (first_block t) (length rule.input)))))
    t.delta rules)

processes_seen : (f : ℕ × View → Views) (w : Word) (old : List View) → length w ≡ length old → map process_of (map (λ (q : ℕ × View). seen (process_of q.1) (f q)) (zip w old)) ≡ map process_of old
processes_seen f [] [] h = refl
processes_seen f [] (v ∷ old) h = absurd (let none : ⊥ = cc in none)
processes_seen f (b ∷ w) [] h = absurd (let none : ⊥ = cc in none)
processes_seen f (b ∷ w) (v ∷ old) h = ap (λ ps. process_of v ∷ ps) (processes_seen f w old (let e : length w ≡ length old = cc in e))

processes_after_round : (w : Word) (old : List View) → length w ≡ length old → map process_of (round old w) ≡ map process_of old
processes_after_round w old h = processes_seen (λ q. views_of (visible q.0 w old)) w old h

processes_after : (ws : List Word) (old : List View) (n : ℕ) → length old ≡ n → AllByRecursion (λ w. length w ≡ n) ws → map process_of (fold round old ws) ≡ map process_of old
processes_after [] old n long h = refl
processes_after (w ∷ ws) old n long h =
    let same = processes_after_round w old (h.0 ∙ sym long) in
    let kept : length (round old w) ≡ n = sym (length-map (round old w) process_of) ∙ ap length same ∙ length-map old process_of ∙ long in
    processes_after ws (round old w) n kept h.1 ∙ same

pub base_processes : (s : Simplex) → map process_of (base_views s) ≡ processes_of s
base_processes [] = refl
base_processes (v ∷ s) = ap (λ ps. v.0 ∷ ps) (base_processes s)

-- the last views of an execution are those of the processes of its input
pub last_processes : (e : Execution) → AllByRecursion (λ w. length w ≡ length e.rule.input) e.words → map process_of (last_views e) ≡ processes_of e.rule.input
last_processes e long = processes_after e.words (base_views e.rule.input) (length e.rule.input) (length-map e.rule.input _) long ∙ base_processes e.rule.input

pub scope_processes : (t : Task) (ps vs : List View) → map (λ (at : ℕ × ℕ). at.0) (map (λ v. (process_of v, number_of ps (class t v))) vs) ≡ map process_of vs
scope_processes t ps [] = refl
scope_processes t ps (v ∷ vs) = ap (λ xs. process_of v ∷ xs) (scope_processes t ps vs)

-- an execution has a place at least, and its processes ascend
HasPlaces : Constraint → Type 0
HasPlaces k = (0 < length k.scope) × (is_ascending (map (λ at. at.0) k.scope) ≡ true)

pub nonempty_length : {X : Type 0} (xs : List X) → is_nonempty xs ≡ true → 0 < length xs
nonempty_length [] h = absurd (false≢true h)
nonempty_length (x ∷ xs) h = omega arith

has_places : (t : Task) (ps : List View) (e : Execution) → is_simplex e.rule.input ≡ true → AllByRecursion (λ w. length w ≡ length e.rule.input) e.words → HasPlaces (constraint_of t ps e)
unfolding HasPlaces
has_places t ps e simplex long =
    let parts = and_parts (is_nonempty e.rule.input) (is_ascending (processes_of e.rule.input)) simplex in
    let processes : map (λ (at : ℕ × ℕ). at.0) (constraint_of t ps e).scope ≡ processes_of e.rule.input = scope_processes t ps (last_views e) ∙ last_processes e long in
    let as_long : length (constraint_of t ps e).scope ≡ length e.rule.input =
    sym (length-map (constraint_of t ps e).scope (λ (at : ℕ × ℕ). at.0)) ∙ ap length processes ∙ length-map e.rule.input (λ v. v.0) in
    (subst (λ n. 0 < n) (sym as_long) (nonempty_length e.rule.input parts.0), subst (λ xs. is_ascending xs ≡ true) (sym processes) parts.1)

constraints_placed : (t : Task) (r : ℕ) → IsTask t → AllByRecursion HasPlaces (problem_of t r).constraints
constraints_placed t r task =
    each_map HasPlaces (constraint_of t (points t r)) (executions t r)
    (each_execution_with (λ e. HasPlaces (constraint_of t (points t r) e)) t r (λ rule. IsSimplexWithin t.processes (largest_value t.least_block) rule.input)
    (each_of_map (IsSimplexWithin t.processes (largest_value t.least_block)) (λ rule. rule.input) t.delta (recursion_from_All _ (inputs t) (inputs_within t task)))
    (λ e simplex long. has_places t (points t r) e simplex.is_simplex long))

pub task_well_formed : (t : Task) (r : ℕ) → IsTask t → IsWellFormed (problem_of t r)
unfolding HasPlaces
task_well_formed t r task =
    let placed = constraints_placed t r task in record {
      in_range = problem_in_range t r;
      has_places = All-from_recursion _ (problem_of t r).constraints (weaker HasPlaces (λ (k : Constraint). 0 < length k.scope) (λ k h. h.0) (problem_of t r).constraints placed);
      ascending_processes = All-from_recursion _ (problem_of t r).constraints (weaker HasPlaces (λ (k : Constraint). is_ascending (map (λ at. at.0) k.scope) ≡ true) (λ k h. h.1) (problem_of t r).constraints placed);
      ascending_values = in_order_ascends (flat_map values_of t.outputs);
    }
