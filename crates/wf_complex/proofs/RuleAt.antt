-- The rule and the constraint of an execution, by what a clause sees of a protocol complex.
use Rattle.std.proofs.Common.{◌≡◌, ℕ, zero, suc, ◌+◌, ◌<◌, List, [], ◌∷◌, ◌++◌, map, flat_map, zip, length, Some, None, option_map, unwrap_or, slice_get, length-append, append_assoc, sym, refl, ap, ◌∙◌, arith}
use Rattle.std.specs.List.{AllByRecursion, enumerate_from, slice_index_or}
use Rattle.std.proofs.lemmas.Option.{slice_get-get_or, slice_get-map, slice_get_within}
use Rattle.std.proofs.lemmas.List.{length-map, map-append}
use Rattle.wf_model.specs.Lists.{lists_of}
use Rattle.wf_model.specs.Simplex.{processes_of}
use Rattle.wf_model.specs.Word.{Word, words}
use Rattle.wf_model.specs.Task.{Task, Rule, first_block}
use Rattle.wf_model.specs.Execution.{Execution, executions_on, executions, last_views}
use Rattle.wf_model.specs.Points.{points}
use Rattle.wf_model.specs.Problem.{Constraint, constraint_of, problem_of}
use Rattle.wf_model.proofs.Lemmas.{each_at, always, each_execution_with, last_processes, scope_processes}
use Rattle.wf_complex.specs.Protocol.{Built, IsProtocol, simplices_of}

-- ---- the rule of an execution stands at the number of its simplex

abbrev with_words : Rule → List Word → Execution
with_words rule ws = record { rule = rule; words = ws }

on_one : (rules : List Rule) (rule : Rule) (n : ℕ) (ls : List (List Word)) → slice_get rules n ≡ Some rule
    → map (slice_get rules) (map (λ e. n) (map (with_words rule) ls)) ≡ map (λ e. Some e.rule) (map (with_words rule) ls)
on_one rules rule n [] h = refl
on_one rules rule n (ws ∷ ls) h = λ i. h i ∷ on_one rules rule n ls h i

at_front : (front : List Rule) (rule : Rule) (back : List Rule) → slice_get (front ++ rule ∷ back) (length front) ≡ Some rule
at_front [] rule back = refl
at_front (f ∷ front) rule back = at_front front rule back

each_rule : (m r : ℕ) (rules front back : List Rule) (n : ℕ) → n ≡ length front → rules ≡ front ++ back
    → map (slice_get rules) (flat_map (λ at. map (λ e. at.0) (executions_on m r at.1)) (enumerate_from n back)) ≡ map (λ e. Some e.rule) (flat_map (executions_on m r) back)
each_rule m r rules front [] n long is = refl
each_rule m r rules front (rule ∷ back) n long is =
    let here : slice_get rules n ≡ Some rule = (λ i. slice_get (is i) (long i)) ∙ at_front front rule back in
    let rest = each_rule m r rules (front ++ rule ∷ []) back (n + 1) (omega (arith, long, length-append front (rule ∷ []))) (is ∙ sym (append_assoc front (rule ∷ []) back)) in
    map-append (slice_get rules) (map (λ e. n) (executions_on m r rule)) (flat_map (λ at. map (λ e. at.0) (executions_on m r at.1)) (enumerate_from (n + 1) back))
    ∙ (λ i. on_one rules rule n (lists_of (words m (length rule.input)) r) here i ++ rest i)
    ∙ sym (map-append (λ e. Some e.rule) (executions_on m r rule) (flat_map (executions_on m r) back))

pub rules_same : (t : Task) (r : ℕ) → map (slice_get t.delta) (simplices_of t r) ≡ map (λ e. Some e.rule) (executions t r)
rules_same t r = each_rule (first_block t) r t.delta [] t.delta 0 refl refl

-- ---- the execution of a number

-- an execution of the task, which stands at this number, on the simplex of that number
pub record StandsAt (t : Task) (r e s : ℕ) : Type 0 where
  pub execution : Execution
  pub there : slice_get (executions t r) e ≡ Some execution
  pub rule_there : slice_get t.delta s ≡ Some execution.rule

pub as_many_executions : (t : Task) (r : ℕ) (b : Built) → IsProtocol t r b → length b.scopes ≡ length (executions t r)
as_many_executions t r b h = ap length h.scopes_are ∙ length-map (problem_of t r).constraints (λ k. k.scope) ∙ length-map (executions t r) (constraint_of t (points t r))

found_at : {X : Type 0} (xs : List X) (i : ℕ) → i < length xs → (x : X) × (slice_get xs i ≡ Some x)
found_at [] i h = absurd (let none : ⊥ = omega (arith, h) in none)
found_at (x ∷ xs) zero h = (x, refl)
found_at (x ∷ xs) (suc i) h = found_at xs i (omega (arith, h))

pub stands_at : (t : Task) (r : ℕ) (b : Built) (e s : ℕ) → IsProtocol t r b → e < length b.scopes → slice_get b.simplices e ≡ Some s → StandsAt t r e s
stands_at t r b e s h inside on =
    let x = found_at (executions t r) e (omega (arith, inside, as_many_executions t r b h)) in
    let left : slice_get (map (slice_get t.delta) (simplices_of t r)) e ≡ Some (slice_get t.delta s) =
    slice_get-map (slice_get t.delta) (simplices_of t r) e ∙ ap (λ ns. option_map (slice_get t.delta) (slice_get ns e)) (sym h.simplices_are) ∙ ap (option_map (slice_get t.delta)) on in
    let right : slice_get (map (λ e. Some e.rule) (executions t r)) e ≡ Some (Some x.0.rule) =
    slice_get-map (λ e. Some e.rule) (executions t r) e ∙ ap (option_map (λ e. Some e.rule)) x.1 in
    record {
      execution = x.0;
      there = x.1;
      rule_there = ap (λ o. unwrap_or o None) (sym left ∙ ap (λ xs. slice_get xs e) (rules_same t r) ∙ right);
    }

-- ---- its constraint

-- what stands at a place
pub got : {X : Type 0} (xs : List X) (i : ℕ) (x d : X) → slice_get xs i ≡ Some x → slice_index_or xs i d ≡ x
got xs i x d there = ap (λ o. unwrap_or o d) (sym (slice_get-get_or xs i d (slice_get_within xs i x there)) ∙ there)

parted : (xs : List (ℕ × ℕ)) → xs ≡ zip (map (λ at. at.0) xs) (map (λ at. at.1) xs)
parted [] = refl
parted (x ∷ xs) = ap (λ rest. x ∷ rest) (parted xs)

pub words_long : (t : Task) (r : ℕ) → AllByRecursion (λ e. AllByRecursion (λ w. length w ≡ length e.rule.input) e.words) (executions t r)
words_long t r = each_execution_with (λ e. AllByRecursion (λ w. length w ≡ length e.rule.input) e.words) t r (λ rule. Unit {0}) (always (λ rule. Unit {0}) (λ rule. tt) t.delta) (λ e _ long. long)

-- the processes of its scope are those of its input simplex
pub scope_on : (t : Task) (r e : ℕ) (x : Execution) → slice_get (executions t r) e ≡ Some x → map (λ at. at.0) (constraint_of t (points t r) x).scope ≡ processes_of x.rule.input
scope_on t r e x there =
    scope_processes t (points t r) (last_views x) ∙ last_processes x (each_at (λ e. AllByRecursion (λ w. length w ≡ length e.rule.input) e.words) (executions t r) e x (words_long t r) there)

-- the constraint of an execution, by the rule of its simplex and its points
pub constraint_there : (t : Task) (r : ℕ) (b : Built) (e s : ℕ) → IsProtocol t r b → e < length b.scopes → slice_get b.simplices e ≡ Some s → (rule : Rule) × (slice_get t.delta s ≡ Some rule)
    × (slice_get (problem_of t r).constraints e ≡ Some (record { scope = zip (processes_of rule.input) (map (λ at. at.1) (slice_index_or b.scopes e [])); tuples = rule.tuples }))
    × (length (slice_index_or b.scopes e []) ≡ length rule.input)
constraint_there t r b e s h inside on =
    let at = stands_at t r b e s h inside on in
    let k : Constraint = constraint_of t (points t r) at.execution in
    let there : slice_get (problem_of t r).constraints e ≡ Some k = slice_get-map (constraint_of t (points t r)) (executions t r) e ∙ ap (option_map (constraint_of t (points t r))) at.there in
    let scope : slice_index_or b.scopes e [] ≡ k.scope =
    ap (λ ss. slice_index_or ss e []) h.scopes_are
    ∙ got (map (λ k. k.scope) (problem_of t r).constraints) e k.scope [] (slice_get-map (λ k. k.scope) (problem_of t r).constraints e ∙ ap (option_map (λ k. k.scope)) there) in
    let as_zipped : k.scope ≡ zip (processes_of at.execution.rule.input) (map (λ at. at.1) (slice_index_or b.scopes e [])) =
    parted k.scope ∙ (λ i. zip (scope_on t r e at.execution at.there i) (map (λ at. at.1) (sym scope i))) in
    let as_long : length (slice_index_or b.scopes e []) ≡ length at.execution.rule.input =
    ap length scope ∙ sym (length-map k.scope (λ at. at.0)) ∙ ap length (scope_on t r e at.execution at.there) ∙ length-map at.execution.rule.input (λ v. v.0) in
    (at.execution.rule, at.rule_there, there ∙ ap (λ scope. Some (record { scope = scope; tuples = at.execution.rule.tuples })) as_zipped, as_long)
