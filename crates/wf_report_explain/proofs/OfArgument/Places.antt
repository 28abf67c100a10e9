-- Where a process stands in an execution, and what is said of a step there.
use Rattle.std.proofs.Common.{◌≡◌, ℕ, ◌-◌, ◌<◌, ◌≤◌, ◌++◌, append-nil, List, [], map, flat_map, zip, length, get_or, Some, None, option_map, slice_get, refl, sym, ap, ◌∙◌, arith, codes}
use Rattle.std.specs.List.{slice_index_or}
use Rattle.std.proofs.lemmas.List.{length-map, get_or_past}
use Rattle.std.proofs.lemmas.Slice.Zip.{seconds-zip}
use Rattle.wf_model.specs.Simplex.{Simplex, processes_of}
use Rattle.wf_model.specs.Task as task
use Rattle.wf_model.specs.Task.{Task, Tuple, inputs}
use Rattle.wf_model.specs.Problem.{Problem, Constraint, constraint_at, no_constraint, problem_of}
use Rattle.wf_model.specs.Check.{place_of}
use Rattle.wf_complex.specs.Protocol.{Built, IsProtocol}
use Rattle.wf_complex.proofs.Lemmas.{constraint_there, got, rule_inside, rule_there}
use Rattle.wf_simplex.specs.Entries.{place_in}
use Rattle.wf_simplex.proofs.Lemmas.{place_none, place_some}
use Rattle.wf_report_explain.specs.Words.Text.{NamedExecutions, execution_at, indented, points_in, rest_text}
use Rattle.wf_report_explain.specs.Argument.ArgumentState.{Gone, ArgumentState, Taking, left_at, needed, take_each}
use Rattle.wf_report_explain.specs.Argument.Text.{claim_text, grounds_text, left_there, taking_text, told_taking}
use Rattle.wf_report_explain.specs.declared.argument.reasons.Reason.{Reason}

-- ---- in an execution

-- its constraint, by the simplex of its number, its tuples and its points
record ConstraintIs (k : Constraint) (s : Simplex) (rule : task.Rule) (ps : List ℕ) : Type 0 where
  pub is : k ≡ record { scope = zip (processes_of s) ps; tuples = rule.tuples }
  pub long : length ps ≡ length (processes_of s)

constraint_is : (t : Task) (r : ℕ) (b : Built) (e n : ℕ) (ps : List ℕ) → IsProtocol t r b → e < length b.scopes → slice_get b.simplices e ≡ Some n → ps ≡ map (λ at. at.1) (slice_index_or b.scopes e [])
    → (rule : task.Rule) × (slice_get t.delta n ≡ Some rule) × ConstraintIs (constraint_at (problem_of t r) e) (get_or (inputs t) n []) rule ps
constraint_is t r b e n ps built inside on are =
    let (rule, there, k_is, long) = constraint_there t r b e n built inside on in
    let low : n < length (inputs t) = omega (arith, rule_inside t r b e n built inside on, length-map t.delta (λ (rule : task.Rule). rule.input)) in
    let at : slice_get t.delta n ≡ Some (record { input = get_or (inputs t) n []; tuples = rule.tuples }) = rule_there t n (get_or (inputs t) n []) [] rule.tuples refl low (ap (option_map (λ rule. rule.tuples)) there) in
    let same : rule ≡ record { input = get_or (inputs t) n []; tuples = rule.tuples } = cc in
    let input : rule.input ≡ get_or (inputs t) n [] = ap (λ (rule : task.Rule). rule.input) same in (
      rule,
      there,
      record {
        is = got (problem_of t r).constraints e _ no_constraint k_is ∙ (λ i. record { scope = zip (processes_of (input i)) (sym are i); tuples = rule.tuples });
        long = ap length are ∙ length-map (slice_index_or b.scopes e []) (λ (at : ℕ × ℕ). at.1) ∙ long ∙ ap length input ∙ sym (length-map (get_or (inputs t) n []) (λ v. v.0));
      },
    )

-- an execution that is not there has nobody
pub nobody : (t : Task) (r : ℕ) (b : Built) (e c : ℕ) → IsProtocol t r b → length b.scopes ≤ e → place_of 0 c (constraint_at (problem_of t r) e).scope ≡ None
nobody t r b e c built past =
    let p = problem_of t r in
    let beyond : length p.constraints ≤ e = omega (arith, past, ap length built.scopes_are, length-map p.constraints (λ k. k.scope)) in
    ap (λ k. place_of 0 c k.scope) (get_or_past p.constraints e no_constraint beyond)

pub not_there : (t : Task) (r : ℕ) (b : Built) (e n c : ℕ) → IsProtocol t r b → e < length b.scopes → slice_get b.simplices e ≡ Some n → place_in 0 c (processes_of (get_or (inputs t) n [])) ≡ None
    → place_of 0 c (constraint_at (problem_of t r) e).scope ≡ None
not_there t r b e n c built inside on h =
    let ps = map (λ at. at.1) (slice_index_or b.scopes e []) in
    let k = constraint_is t r b e n ps built inside on refl in
    ap (λ k. place_of 0 c k.scope) k.2.is ∙ place_none 0 c (processes_of (get_or (inputs t) n [])) ps k.2.long h

-- the place and the point of a process, the points and the tuples
pub record IsFound (k : Constraint) (c place : ℕ) (points : List ℕ) (tuples : List Tuple) : Type 0 where
  pub at : place_of 0 c k.scope ≡ Some (place, get_or points place 0)
  pub inside : place < length points
  pub points_are : points ≡ points_in k
  pub tuples_are : tuples ≡ k.tuples

pub there : (t : Task) (r : ℕ) (b : Built) (e n c place : ℕ) (points : List ℕ) (tuples : List Tuple) → IsProtocol t r b → e < length b.scopes → slice_get b.simplices e ≡ Some n
    → points ≡ map (λ at. at.1) (slice_index_or b.scopes e []) → option_map (λ rule. rule.tuples) (slice_get t.delta n) ≡ Some tuples → place_in 0 c (processes_of (get_or (inputs t) n [])) ≡ Some place
    → IsFound (constraint_at (problem_of t r) e) c place points tuples
there t r b e n c place points tuples built inside on are listed h =
    let k = constraint_is t r b e n points built inside on are in
    let ps = processes_of (get_or (inputs t) n []) in
    let found = place_some 0 c place ps points k.2.long h in
    let from : place - 0 ≡ place = omega arith in
    let same : tuples ≡ k.0.tuples = cc in record {
      at = ap (λ k. place_of 0 c k.scope) k.2.is ∙ found.at ∙ ap (λ j. Some (place, get_or points j 0)) from;
      inside = omega (arith, found.inside);
      points_are = sym (ap points_in k.2.is ∙ seconds-zip ps points k.2.long);
      tuples_are = same ∙ sym (ap (λ k. k.tuples) k.2.is);
    }

-- ---- what is said there, and what is gone then

pub told_nobody : (p : Problem) (es : NamedExecutions) (s : ArgumentState) (e c : ℕ) (values t : List ℕ) → place_of 0 c (constraint_at p e).scope ≡ None → t ≡ t ++ told_taking p es s e values (place_of 0 c (constraint_at p e).scope)
told_nobody p es s e c values t none = sym (ap (λ at. t ++ told_taking p es s e values at) none ∙ append-nil t)

-- a step that has taken values from a point
pub told_found : (p : Problem) (es : NamedExecutions) (s : ArgumentState) (e place v : ℕ) (values points : List ℕ) (tuples noted : List Tuple) (why : List Reason) (gone : Gone) → points ≡ points_in (constraint_at p e) → tuples ≡ (constraint_at p e).tuples
    → noted ≡ flat_map (needed tuples place) values → why ≡ (take_each tuples points s.number place v s.gone values).reasons → gone ≡ (take_each tuples points s.number place v s.gone values).gone
    → indented s.depth (claim_text s.number v values e ++ (execution_at es e ++ (codes ", " ++ (grounds_text points noted why ++ rest_text v (left_there tuples place (left_at p.values gone v)))))) ≡ taking_text p es s e values (place, v)
told_found p es s e place v values points tuples noted why gone points_are tuples_are are rest then =
    let line : List Tuple → List Reason → Gone → List ℕ → List Tuple → List ℕ = λ noted why gone points tuples. indented s.depth (claim_text s.number v values e ++ (execution_at es e ++ (codes ", " ++ (grounds_text points noted why ++ rest_text v (left_there tuples place (left_at p.values gone v)))))) in
    (λ i. line (are i) (rest i) (then i) points tuples)
    ∙ (λ i. let done : Taking = take_each (tuples_are i) (points_are i) s.number place v s.gone values in line (flat_map (needed (tuples_are i) place) values) done.reasons done.gone (points_are i) (tuples_are i))
