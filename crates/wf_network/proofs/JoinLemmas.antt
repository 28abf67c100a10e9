-- A task and its protocol complex, as a problem.
use Rattle.std.proofs.Common.{◌≡◌, ℕ, ◌+◌, ◌<◌, ◌≤◌, List, [], ◌∷◌, ◌++◌, All, map, zip, take, length, get_or, Some, slice_get, refl, sym, ap, ◌∙◌, subst, arith, ◌⊎◌, inl, inr, length-append}
use Rattle.std.specs.List.{slice_index_or}
use Rattle.std.specs.Option.{option_map}
use Rattle.std.proofs.lemmas.Option.{slice_get-get_or, slice_get-map, slice_get_within}
use Rattle.std.proofs.lemmas.List.{get_or-map, get_or-take, get_or_append_left, get_or_default, length-map, map-append, same_lists, take_more}
use Rattle.std.proofs.lemmas.List.Elements.{All-push}
use Rattle.std.proofs.Math.Nat.{eq-or-lt_of_le}
use Rattle.std.proofs.Math.Seq.{get_or-append_seam}
use Rattle.std.proofs.lemmas.List.Sums.{get_or-le-sum_by}
use Rattle.wf_model.specs.Simplex.{Simplex, processes_of}
use Rattle.wf_model.specs.Task as task
use Rattle.wf_model.specs.Task.{Task, IsTask, inputs}
use Rattle.wf_model.specs.Problem.{Constraint, problem_of}
use Rattle.wf_complex.specs.Packed.{four_of}
use Rattle.wf_complex.specs.Protocol.{ArePacked, Built, IsProtocol}
use Rattle.wf_complex.specs.declared.packed.PackedExecution.{PackedExecution}
use Rattle.wf_complex.proofs.Lemmas.{as_many_constraints, constraint_there, four_all, four_long, four_part, got, known_points, rule_there, zip_part}
use Rattle.wf_network.specs.Problems.{AreAlike, HasTable, IsAlike, IsWide, IsWithin, constraint_seen, no_rule, rule_seen}
use Rattle.wf_network.specs.declared.problem.Rule.{Rule}

-- ---- one more in a loop

pub one_more : {X Y : Type 0} (f : X → Y) (xs : List X) (x : X) (ys : List Y) (i : ℕ) (y : Y) → map f xs ≡ take i ys → f x ≡ y → slice_get ys i ≡ Some y → map f (xs ++ x ∷ []) ≡ take (i + 1) ys
one_more f xs x ys i y so_far is there =
    map-append f xs (x ∷ [])
    ∙ (λ j. so_far j ++ (is ∙ sym (got ys i y y there)) j ∷ [])
    ∙ sym (take_more ys i y (slice_get_within ys i y there))

-- ---- the rules

-- there are few tuples, each as long as its simplex
pub few_tuples : (t : Task) (n : ℕ) (rule : task.Rule) → IsTask t → slice_get t.delta n ≡ Some rule → length rule.tuples ≤ 65536
few_tuples t n rule is there =
    let low = get_or-le-sum_by (λ (r : task.Rule). length r.tuples) t.delta n rule (slice_get_within t.delta n rule there) in
    omega (arith, low, ap (λ (r : task.Rule). length r.tuples) (got t.delta n rule rule there), is.limits.tuples)

pub long_tuples : (t : Task) (n : ℕ) (rule : task.Rule) → IsTask t → slice_get t.delta n ≡ Some rule → All (λ tuple. length tuple ≡ length rule.input) rule.tuples
long_tuples t n rule is there =
    subst (λ (r : task.Rule). All (λ tuple. length tuple ≡ length r.input) r.tuples) (got t.delta n rule rule there) (is.decision.rules n rule (slice_get_within t.delta n rule there)).long

-- ---- the executions

pub execution_there : (t : Task) (r : ℕ) (b : Built) (rules : List Rule) (n s : ℕ) (ps four : List ℕ) → IsProtocol t r b → map rule_seen rules ≡ t.delta → n < length b.scopes → slice_get b.simplices n ≡ Some s
    → ps ≡ map (λ at. at.1) (slice_index_or b.scopes n []) → take (length ps) four ≡ ps
    → slice_get (problem_of t r).constraints n ≡ Some (constraint_seen rules (record { simplex = s; points = four }))
execution_there t r b rules n s ps four built all inside on are part =
    let (rule, there, k_is, as_long) = constraint_there t r b n s built inside on in
    let low : s < length rules = omega (arith, slice_get_within t.delta s rule there, ap length all, length-map rules rule_seen) in
    let seen : rule_seen (get_or rules s no_rule) ≡ rule = sym (get_or-map rule_seen rules s no_rule rule low) ∙ ap (λ (xs : List task.Rule). get_or xs s rule) all ∙ got t.delta s rule rule there in
    let long : length (processes_of rule.input) ≡ length ps = length-map rule.input (λ v. v.0) ∙ sym as_long ∙ sym (length-map (slice_index_or b.scopes n []) (λ (at : ℕ × ℕ). at.1)) ∙ ap length (sym are) in
    let scope : zip (processes_of (get_or rules s no_rule).simplex) four ≡ zip (processes_of rule.input) (map (λ at. at.1) (slice_index_or b.scopes n [])) =
    ap (λ (q : task.Rule). zip (processes_of q.input) four) seen ∙ zip_part (processes_of rule.input) four ps long part ∙ ap (zip (processes_of rule.input)) are in
    k_is ∙ (λ j. Some (record { scope = sym scope j; tuples = (sym seen j).tuples }))

-- the rule of an execution is there
pub rule_within : (t : Task) (r : ℕ) (b : Built) (rules : List Rule) (n s : ℕ) → IsProtocol t r b → map rule_seen rules ≡ t.delta → n < length b.scopes → slice_get b.simplices n ≡ Some s → s < length rules
rule_within t r b rules n s built all inside on =
    let (rule, there, k_is, as_long) = constraint_there t r b n s built inside on in
    omega (arith, slice_get_within t.delta s rule there, ap length all, length-map rules rule_seen)

-- packed executions are the constraints, with rules and points that are there
module _ (t : Task) (r : ℕ) (b : Built) (rules : List Rule) (es : List PackedExecution) (built : IsProtocol t r b) (all : map rule_seen rules ≡ t.delta) (packed : ArePacked b es) where
  points_of : ℕ → List ℕ
  points_of n = map (λ (at : ℕ × ℕ). at.1) (slice_index_or b.scopes n [])

  simplex_there : (n : ℕ) (d : PackedExecution) → n < length es → slice_get b.simplices n ≡ Some (get_or es n d).simplex
  simplex_there n d low =
      ap (λ ss. slice_get ss n) (sym packed.simplices)
      ∙ slice_get-map (λ (e : PackedExecution). e.simplex) es n
      ∙ ap (option_map (λ (e : PackedExecution). e.simplex)) (slice_get-get_or es n d low)

  points_there : (n : ℕ) (d : PackedExecution) → n < length es → (get_or es n d).points ≡ four_of (points_of n)
  unfolding points_of
  points_there n d low =
      sym (get_or-map (λ (e : PackedExecution). e.points) es n d [] low)
      ∙ ap (λ xs. get_or xs n []) packed.points
      ∙ get_or-map (λ scope. four_of (map (λ (at : ℕ × ℕ). at.1) scope)) b.scopes n [] [] (omega (arith, low, packed.long))

  known_there : (n : ℕ) (d : PackedExecution) → n < length es → (0 < length (points_of n)) × (length (points_of n) ≤ 4) × All (λ v. v < length b.points) (points_of n)
  unfolding points_of
  known_there n d low = known_points t r b n (get_or es n d).simplex (points_of n) built (omega (arith, low, packed.long)) (simplex_there n d low) refl

  seen_there : (n : ℕ) (d : PackedExecution) → n < length es → slice_get (problem_of t r).constraints n ≡ Some (constraint_seen rules (get_or es n d))
  unfolding points_of
  seen_there n d low =
      let ps = points_of n in
      let e = get_or es n d in
      let four = points_there n d low in
      let part : take (length ps) e.points ≡ ps = ap (take (length ps)) four ∙ four_part ps (known_there n d low).1 in
      execution_there t r b rules n e.simplex ps e.points built all (omega (arith, low, packed.long)) (simplex_there n d low) refl part

  pub constraints_are : map (constraint_seen rules) es ≡ (problem_of t r).constraints
  constraints_are =
      same_lists {X = Constraint} (map (constraint_seen rules) es) (problem_of t r).constraints
      (length-map es (constraint_seen rules) ∙ packed.long ∙ as_many_constraints t r b built)
      (λ n k low.
      let inside : n < length es = omega (arith, low, length-map es (constraint_seen rules)) in
      let d : PackedExecution = record { simplex = 0; points = [] } in
      get_or-map (constraint_seen rules) es n d k inside ∙ sym (got (problem_of t r).constraints n (constraint_seen rules (get_or es n d)) k (seen_there n d inside)))

  pub all_within : All (IsWithin (length rules) (length b.points)) es
  unfolding points_of
  all_within n d low =
      let known = known_there n d low in
      let four = points_there n d low in
      record {
        rule = rule_within t r b rules n (get_or es n d).simplex built all (omega (arith, low, packed.long)) (simplex_there n d low);
        long = ap length four ∙ four_long (points_of n) known.1;
        points_within = subst (All (λ v. v < length b.points)) (sym four) (four_all (λ v. v < length b.points) (points_of n) known.0 known.1 known.2);
      }

-- ---- rules with one table

-- what a rule names for the same tuples has their table
pub table_like : (t : Task) (rules : List Rule) (i : ℕ) (rule : Rule) (simplex : Simplex) (tuples : List task.Tuple) → map rule_seen rules ≡ take (length rules) t.delta → All IsWide rules → AreAlike rules → i < length rules → length rules ≤ length t.delta
    → rule ≡ get_or rules i rule → length rule.simplex ≡ length simplex → option_map (λ (r : task.Rule). r.tuples) (slice_get t.delta i) ≡ Some tuples → HasTable simplex tuples rules rule.like
table_like t rules i rule simplex tuples all wide alike low within is long there =
    let here : get_or rules i no_rule ≡ rule = get_or_default rules i no_rule rule low ∙ sym is in
    let same : (get_or rules rule.like no_rule).table ≡ rule.table = subst (λ (r : Rule). (get_or rules r.like no_rule).table ≡ r.table) here (alike i no_rule low).same in
    let width : rule.table.width ≡ length simplex = subst IsWide here (wide i no_rule low) ∙ long in
    let x : task.Rule = record { input = get_or (inputs t) i []; tuples = tuples } in
    let at : slice_get t.delta i ≡ Some x = rule_there t i (get_or (inputs t) i []) [] tuples refl (omega (arith, low, within, length-map t.delta (λ (r : task.Rule). r.input))) there in
    let seen : rule_seen rule ≡ x = ap rule_seen (sym here) ∙ sym (get_or-map rule_seen rules i no_rule x low) ∙ ap (λ (xs : List task.Rule). get_or xs i x) all ∙ get_or-take (length rules) t.delta i x low ∙ got t.delta i x x at in
    same ∙ (λ j. record { width = width j; rows = (seen j).tuples })

-- a rule of some tuples has their table
table_of_rule : (rule : Rule) (simplex : Simplex) (tuples : List task.Tuple) → rule_seen rule ≡ record { input = simplex; tuples = tuples } → IsWide rule → rule.table ≡ record { width = length simplex; rows = tuples }
table_of_rule rule simplex tuples is wide =
    let width : rule.table.width ≡ length simplex = wide ∙ ap (λ (r : task.Rule). length r.input) is in
    λ j. record { width = width j; rows = (is j).tuples }

alike_last : (rules : List Rule) (rule : Rule) (simplex : Simplex) (tuples : List task.Tuple) → rule_seen rule ≡ record { input = simplex; tuples = tuples } → IsWide rule → (rule.like < length rules → HasTable simplex tuples rules rule.like)
    → (rule.like ≡ length rules) ⊎ (rule.like < length rules) → IsAlike (rules ++ rule ∷ []) rule
alike_last rules rule simplex tuples is wide same (inl last) = record {
  there = omega (arith, last, length-append rules (rule ∷ []));
  same = ap (λ n. (get_or (rules ++ rule ∷ []) n no_rule).table) last ∙ ap (λ (r : Rule). r.table) (get_or-append_seam rules rule [] no_rule);
}
alike_last rules rule simplex tuples is wide same (inr low) = record {
  there = omega (arith, low, length-append rules (rule ∷ []));
  same = ap (λ (r : Rule). r.table) (get_or_append_left rules (rule ∷ []) no_rule rule.like low) ∙ same low ∙ sym (table_of_rule rule simplex tuples is wide);
}

-- one more rule, which names itself or an earlier one with its table
pub alike_more : (rules : List Rule) (rule : Rule) (simplex : Simplex) (tuples : List task.Tuple) → AreAlike rules → rule_seen rule ≡ record { input = simplex; tuples = tuples } → IsWide rule → rule.like ≤ length rules → (rule.like < length rules → HasTable simplex tuples rules rule.like)
    → AreAlike (rules ++ rule ∷ [])
alike_more rules rule simplex tuples alike is wide within same =
    All-push (IsAlike (rules ++ rule ∷ [])) rules rule
    (λ i d low.
    let old = alike i d low in
    record { there = omega (arith, old.there, length-append rules (rule ∷ [])); same = ap (λ (r : Rule). r.table) (get_or_append_left rules (rule ∷ []) no_rule (get_or rules i d).like old.there) ∙ old.same })
    (alike_last rules rule simplex tuples is wide same (eq-or-lt_of_le within))
