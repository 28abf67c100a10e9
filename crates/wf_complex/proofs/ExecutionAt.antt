-- What is read of an execution: its rule, its points, and whether values are right there, by what a
-- clause sees of a protocol complex.
use Rattle.std.proofs.Common.{◌≡◌, ℕ, ◌<◌, ◌≤◌, ◌==◌, List, [], ◌∷◌, map, zip, length, get_or, All, Option, Some, None, option_map, unwrap_or, slice_get, slice_index, refl, sym, ap, ◌∙◌, subst, arith}
use Rattle.std.specs.List.{slice_index_or, list_any}
use Rattle.std.specs.Cmp.Lexicographic.{pointwise}
use Rattle.std.proofs.lemmas.Option.{slice_get_within}
use Rattle.std.proofs.lemmas.List.{get_or-map, length-map}
use Rattle.std.proofs.lemmas.List.Elements.{All-map}
use Rattle.std.proofs.lemmas.Slice.Zip.{seconds-zip}
use Rattle.wf_model.specs.Simplex.{Simplex, processes_of}
use Rattle.wf_model.specs.Task as task
use Rattle.wf_model.specs.Task.{Task, Tuple, IsTask, IsSimplexWithin, inputs, largest_value}
use Rattle.wf_model.specs.Problem.{Constraint, problem_of, values_at, constraint_at, no_constraint}
use Rattle.wf_model.specs.Check.{satisfies}
use Rattle.wf_model.proofs.Lemmas.{task_well_formed, inputs_within}
use Rattle.wf_simplex.proofs.Lemmas.{length-within}
use Rattle.wf_complex.specs.Protocol.{Built, IsProtocol}
use Rattle.wf_complex.proofs.RuleAt.{constraint_there, got}

-- ---- the rule

found_by : (rules : List task.Rule) (n : ℕ) (tuples : List Tuple) → option_map (λ rule. rule.tuples) (slice_get rules n) ≡ Some tuples → (rule : task.Rule) × (slice_get rules n ≡ Some rule) × (rule.tuples ≡ tuples)
found_by rules n tuples is = by_get (slice_get rules n) refl is
  where
    by_get : (o : Option task.Rule) → slice_get rules n ≡ o → option_map (λ rule. rule.tuples) o ≡ Some tuples → (rule : task.Rule) × (slice_get rules n ≡ Some rule) × (rule.tuples ≡ tuples)
    by_get None at is = absurd (let bad : ⊥ = cc in bad)
    by_get (Some rule) at is = (rule, at, cc)

-- the rule of an input simplex with its tuples
pub rule_there : (t : Task) (n : ℕ) (s d : Simplex) (tuples : List Tuple) → s ≡ get_or (inputs t) n d → n < length (inputs t) → option_map (λ rule. rule.tuples) (slice_get t.delta n) ≡ Some tuples → slice_get t.delta n ≡ Some (record { input = s; tuples = tuples })
rule_there t n s d tuples is inside there =
    let rule = found_by t.delta n tuples there in
    let input : s ≡ rule.0.input = is ∙ get_or-map (λ (r : task.Rule). r.input) t.delta n rule.0 d (slice_get_within t.delta n rule.0 rule.1) ∙ ap (λ (r : task.Rule). r.input) (got t.delta n rule.0 rule.0 rule.1) in
    rule.1 ∙ (λ j. Some (record { input = sym input j; tuples = rule.2 j }))

-- the rule of an execution is there
pub rule_inside : (t : Task) (r : ℕ) (b : Built) (e n : ℕ) → IsProtocol t r b → e < length b.scopes → slice_get b.simplices e ≡ Some n → n < length t.delta
rule_inside t r b e n built inside on =
    let (rule, there, k_is, long) = constraint_there t r b e n built inside on in
    slice_get_within t.delta n rule there

-- ---- the points

-- how many processes there are at most
size_of : (t : Task) (n : ℕ) (rule : task.Rule) → IsTask t → slice_get t.delta n ≡ Some rule → length rule.input ≤ 4
size_of t n rule is there =
    let low : n < length (inputs t) = omega (arith, slice_get_within t.delta n rule there, length-map t.delta (λ (r : task.Rule). r.input)) in
    let input : get_or (inputs t) n rule.input ≡ rule.input = get_or-map (λ (r : task.Rule). r.input) t.delta n rule rule.input (slice_get_within t.delta n rule there) ∙ ap (λ (r : task.Rule). r.input) (got t.delta n rule rule there) in
    let within : IsSimplexWithin t.processes (largest_value t.least_block) rule.input = subst (IsSimplexWithin t.processes (largest_value t.least_block)) input (inputs_within t is n rule.input low) in
    omega (arith, length-within t.processes (largest_value t.least_block) rule.input within, is.limits.processes)

some_zipped : (xs ys : List ℕ) → 0 < length (zip xs ys) → 0 < length ys
some_zipped [] ys h = absurd (let bad : ⊥ = omega (arith, h) in bad)
some_zipped (x ∷ xs) [] h = absurd (let bad : ⊥ = omega (arith, h) in bad)
some_zipped (x ∷ xs) (y ∷ ys) h = omega arith

-- the points of an execution: one to four, and each of the complex
pub known_points : (t : Task) (r : ℕ) (b : Built) (e s : ℕ) (ps : List ℕ) → IsProtocol t r b → e < length b.scopes → slice_get b.simplices e ≡ Some s → ps ≡ map (λ at. at.1) (slice_index_or b.scopes e []) → (0 < length ps) × (length ps ≤ 4) × All (λ v. v < length b.points) ps
known_points t r b e s ps built inside on are =
    let (rule, there, k_is, as_long) = constraint_there t r b e s built inside on in
    let p = problem_of t r in
    let qs : List ℕ = map (λ (at : ℕ × ℕ). at.1) (slice_index_or b.scopes e []) in
    let k : Constraint = record { scope = zip (processes_of rule.input) qs; tuples = rule.tuples } in
    let well = task_well_formed t r built.task in
    let low = slice_get_within p.constraints e k k_is in
    let long : length qs ≡ length rule.input = length-map (slice_index_or b.scopes e []) (λ (at : ℕ × ℕ). at.1) ∙ as_long in
    let same_long : length qs ≡ length (processes_of rule.input) = long ∙ sym (length-map rule.input (λ v. v.0)) in
    let some : 0 < length k.scope = subst (λ (c : Constraint). 0 < length c.scope) (got p.constraints e k k k_is) (well.has_places e k low) in
    let ranged : All (λ (at : ℕ × ℕ). at.1 < p.points) k.scope = subst (λ (c : Constraint). All (λ (at : ℕ × ℕ). at.1 < p.points) c.scope) (got p.constraints e k k k_is) (well.in_range e k low) in
    let points_in : All (λ v. v < p.points) qs = subst (All (λ v. v < p.points)) (seconds-zip (processes_of rule.input) qs same_long) (All-map (λ v. v < p.points) (λ (at : ℕ × ℕ). at.1) k.scope ranged) in (
      subst (λ (xs : List ℕ). 0 < length xs) (sym are) (some_zipped (processes_of rule.input) qs some),
      omega (arith, ap length are, long, size_of t s rule built.task there),
      subst (λ n. All (λ v. v < n) ps) (ap length (sym built.points_are)) (subst (All (λ v. v < p.points)) (sym are) points_in),
    )

-- ---- values

-- as many scopes as constraints
pub as_many_constraints : (t : Task) (r : ℕ) (b : Built) → IsProtocol t r b → length b.scopes ≡ length (problem_of t r).constraints
as_many_constraints t r b h = ap length h.scopes_are ∙ length-map (problem_of t r).constraints (λ k. k.scope)

-- the tuples of the simplex that an execution is on are those of its constraint
pub tuples_at : (t : Task) (r : ℕ) (b : Built) (e s : ℕ) → IsProtocol t r b → e < length b.scopes → slice_get b.simplices e ≡ Some s
    → option_map (λ rule. rule.tuples) (slice_get t.delta s) ≡ Some (constraint_at (problem_of t r) e).tuples
tuples_at t r b e s h inside on =
    let (rule, there, is, long) = constraint_there t r b e s h inside on in
    ap (option_map (λ (rule : task.Rule). rule.tuples)) there ∙ sym (ap (λ (k : Constraint). Some k.tuples) (got (problem_of t r).constraints e _ no_constraint is))

-- the scope of an execution is that of its constraint
pub scope_is : (t : Task) (r : ℕ) (b : Built) (e : ℕ) → IsProtocol t r b → e < length b.scopes → slice_index_or b.scopes e [] ≡ (constraint_at (problem_of t r) e).scope
scope_is t r b e h inside =
    ap (λ ss. slice_index_or ss e []) h.scopes_are
    ∙ get_or-map (λ k. k.scope) (problem_of t r).constraints e no_constraint [] (omega (arith, inside, as_many_constraints t r b h))

-- the rows of that rule and the points of the execution tell whether the values are right there
pub right_there : (t : Task) (r : ℕ) (b : Built) (e s : ℕ) (values ps : List ℕ) (rows : List (List ℕ)) → IsProtocol t r b → e < length b.scopes → slice_get b.simplices e ≡ Some s
    → ps ≡ map (λ at. at.1) (slice_index_or b.scopes e []) → option_map (λ rule. rule.tuples) (slice_get t.delta s) ≡ Some rows
    → list_any (pointwise (λ x y. x == y) (map (λ v. slice_index values v) ps)) rows ≡ satisfies values (constraint_at (problem_of t r) e)
right_there t r b e s values ps rows h inside on are found =
    let k = constraint_at (problem_of t r) e in
    let same : rows ≡ k.tuples = ap (λ o. unwrap_or o []) (sym found ∙ tuples_at t r b e s h inside on) in
    let at : map (λ v. slice_index values v) ps ≡ values_at values k.scope =
    ap (map (λ v. slice_index values v)) (are ∙ ap (map (λ at. at.1)) (scope_is t r b e h inside)) ∙ seen values k.scope in
    λ i. list_any (pointwise (λ x y. x == y) (at i)) (same i)
  where
    seen : (values : List ℕ) (scope : List (ℕ × ℕ)) → map (λ v. slice_index values v) (map (λ at. at.1) scope) ≡ values_at values scope
    seen values [] = refl
    seen values (at ∷ scope) = ap (λ rest. slice_index values at.1 ∷ rest) (seen values scope)
