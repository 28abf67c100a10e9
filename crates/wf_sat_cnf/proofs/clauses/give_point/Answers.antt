use Rattle.std.proofs.Common.{◌≡◌, ◌≤◌, ℕ, List, ◌++◌, ◌∷◌, [], Some, None, map, ap, ◌∙◌, sym, subst}
use Rattle.wf_base.specs.Set.Sets.{values_in}
use Rattle.wf_sat_text.specs.Clauses.Formula.{pos}
use Rattle.wf_sat_check.specs.Rup.Codes.{most_variables}
use Rattle.wf_sat_formula.specs.Encoding.{variable, at_least_one}
use Rattle.wf_sat_cnf.specs.Tokens.{Token, clause_tokens}
use Rattle.wf_sat_cnf.proofs.TextLemmas.{few_variables}
use Rattle.wf_sat_cnf.proofs.TakenLemmas.{last_taken, stopped, went_on}
use Rattle.wf_sat_cnf.proofs.clauses.give_point.Goals as goal

-- the literals of these values, and the end of the clause
left_over : List ℕ → ℕ → List ℕ → List Token
left_over values point left = clause_tokens (map (λ a. pos (variable values point a)) left)

next : (values : List ℕ) (point value number : ℕ) (left others : List ℕ) → left ≡ value ∷ others → number ≡ variable values point value
    → left_over values point left ≡ (Some (pos number) ∷ []) ++ left_over values point others
unfolding left_over
next values point value number left others is same =
    ap (λ vs. clause_tokens (map (λ a. pos (variable values point a)) vs)) is
    ∙ ap (λ n. Some (pos n) ∷ clause_tokens (map (λ a. pos (variable values point a)) others)) (sym same)

pub positive-requires-clause-known : goal.positive-requires-clause-known
positive-requires-clause-known g c =
    subst (λ n. n ≤ most_variables) (sym c.number.ensures) (few_variables c.args.variables.now.values c.args.point c.in-Some.next.0 c.requires.point)

pub values-preserved : goal.values-preserved
unfolding left_over
values-preserved g c =
    let values = values_in c.args.variables.now.values in
    let v = c.in-Some.next.0 in
    let step = next values c.args.point v c.number.result (values_in c.values.left) (values_in c.in-Some.next.1) c.in-Some.ensures c.number.ensures in
    went_on g.met.K.TokenSink.laws _ _ _ _ _ _ (clause_tokens (at_least_one values c.args.point)) (Some (pos c.number.result) ∷ [])
    (left_over values c.args.point (values_in c.values.left)) (left_over values c.args.point (values_in c.in-Some.next.1)) c.values.invariant c.in_ok-positive.ensures step

pub returns-in_err-positive : goal.returns-in_err-positive
unfolding left_over
returns-in_err-positive g c =
    let values = values_in c.args.variables.now.values in
    let v = c.in-Some.next.0 in
    let step = next values c.args.point v c.number.result (values_in c.values.left) (values_in c.in-Some.next.1) c.in-Some.ensures c.number.ensures in
    stopped g.met.K.TokenSink.laws _ _ _ _ _ _ (clause_tokens (at_least_one values c.args.point)) (Some (pos c.number.result) ∷ [])
    (left_over values c.args.point (values_in c.values.left)) (left_over values c.args.point (values_in c.in-Some.next.1)) _ c.from_residual.result c.from_residual.ensures.0
    c.values.invariant c.in_err-positive.ensures step

pub returns : goal.returns
unfolding left_over
returns g c =
    let values = values_in c.args.variables.now.values in
    last_taken g.met.K.TokenSink.laws _ _ _ _ _ _ (clause_tokens (at_least_one values c.args.point)) (None ∷ []) (left_over values c.args.point (values_in c.values.left)) c.end_clause.result
    c.values.invariant c.end_clause.ensures (ap (left_over values c.args.point) c.in_default.ensures)
