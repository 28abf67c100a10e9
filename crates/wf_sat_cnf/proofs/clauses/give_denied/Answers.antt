use Rattle.std.proofs.Common.{◌≡◌, ℕ, List, ◌+◌, ◌<◌, ◌≤◌, ◌++◌, ◌∷◌, [], Some, None, min, zip, drop, length, slice_index, ap, sym, ◌∙◌, subst, arith}
use Rattle.std.proofs.lemmas.Slice.Zip.{length-zip}
use Rattle.wf_base.specs.Set.Sets.{values_in}
use Rattle.wf_sat_text.specs.Clauses.Formula.{neg}
use Rattle.wf_sat_check.specs.Rup.Codes.{most_variables}
use Rattle.wf_sat_formula.specs.Encoding.{variable}
use Rattle.wf_sat_cnf.specs.Clauses.{denied_at}
use Rattle.wf_sat_cnf.specs.Tokens.{Token, clause_tokens}
use Rattle.wf_sat_cnf.proofs.TextLemmas.{entry_at, few_variables}
use Rattle.wf_sat_cnf.proofs.PutLemmas.{next_entry, none_after}
use Rattle.wf_sat_cnf.proofs.TakenLemmas.{last_taken, stopped, went_on}
use Rattle.wf_sat_cnf.proofs.clauses.give_denied.Goals as goal

-- the literals of these entries, and the end of the clause
left_over : List ℕ → List ℕ → List (ℕ × ℕ) → List Token
left_over values points entries = clause_tokens (denied_at values points entries)

next : (values points places chosen : List ℕ) (i size p a number : ℕ) → i < size → size ≡ min (length places) (length chosen) → p ≡ slice_index places i → a ≡ slice_index chosen i → number ≡ variable values (slice_index points p) a
    → left_over values points (drop i (zip places chosen)) ≡ (Some (neg number) ∷ []) ++ left_over values points (drop (i + 1) (zip places chosen))
unfolding left_over
next values points places chosen i size p a number low is first second same =
    ap (λ entries. clause_tokens (denied_at values points entries)) (next_entry places chosen i size p a low is first second)
    ∙ ap (λ n. Some (neg n) ∷ clause_tokens (denied_at values points (drop (i + 1) (zip places chosen)))) (sym same)

pub bounds-points-value : goal.bounds-points-value
bounds-points-value g c =
    let places = c.args.pattern.now.places in
    let values = c.args.pattern.now.values in
    let is : c.min-size.result ≡ min (length places) (length values) = c.min-size.ensures ∙ (λ i. min (c.size.ensures.count i) (c.size-2.ensures.count i)) in
    subst (λ p. p < length c.args.points.now) (sym c.value.ensures) (entry_at places values c.args.points.now c.loop-at.at c.min-size.result c.loop-at-test.true is c.requires.places)

pub number-requires-clause-point : goal.number-requires-clause-point
number-requires-clause-point g c =
    let places = c.args.pattern.now.places in
    let values = c.args.pattern.now.values in
    let is : c.min-size.result ≡ min (length places) (length values) = c.min-size.ensures ∙ (λ i. min (c.size.ensures.count i) (c.size-2.ensures.count i)) in
    let inside : c.value.result < length c.args.points.now = subst (λ p. p < length c.args.points.now) (sym c.value.ensures) (entry_at places values c.args.points.now c.loop-at.at c.min-size.result c.loop-at-test.true is c.requires.places) in
    c.requires.few c.value.result 0 inside

pub negative-requires-clause-known : goal.negative-requires-clause-known
negative-requires-clause-known g c =
    let places = c.args.pattern.now.places in
    let values = c.args.pattern.now.values in
    let is : c.min-size.result ≡ min (length places) (length values) = c.min-size.ensures ∙ (λ i. min (c.size.ensures.count i) (c.size-2.ensures.count i)) in
    let inside : c.value.result < length c.args.points.now = subst (λ p. p < length c.args.points.now) (sym c.value.ensures) (entry_at places values c.args.points.now c.loop-at.at c.min-size.result c.loop-at-test.true is c.requires.places) in
    subst (λ n. n ≤ most_variables) (sym c.number.ensures)
    (few_variables c.args.variables.now.values (slice_index c.args.points.now c.value.result) c.value-in-loop-at.result (c.requires.few c.value.result 0 inside))

pub returns-in_err-negative : goal.returns-in_err-negative
unfolding left_over
returns-in_err-negative g c =
    let places = c.args.pattern.now.places in
    let values = c.args.pattern.now.values in
    let is : c.min-size.result ≡ min (length places) (length values) = c.min-size.ensures ∙ (λ i. min (c.size.ensures.count i) (c.size-2.ensures.count i)) in
    let all = values_in c.args.variables.now.values in
    let step = next all c.args.points.now places values c.loop-at.at c.min-size.result c.value.result c.value-in-loop-at.result c.number.result
    c.loop-at-test.true is c.value.ensures c.value-in-loop-at.ensures c.number.ensures in
    stopped g.met.K.TokenSink.laws _ _ _ _ _ _ (clause_tokens (denied_at all c.args.points.now (zip places values))) (Some (neg c.number.result) ∷ [])
    (left_over all c.args.points.now (drop c.loop-at.at (zip places values))) (left_over all c.args.points.now (drop (c.loop-at.at + 1) (zip places values)))
    _ c.from_residual.result c.from_residual.ensures.0 c.loop-at.invariant c.in_err-negative.ensures step

pub loop-at-preserved : goal.loop-at-preserved
unfolding left_over
loop-at-preserved g c =
    let places = c.args.pattern.now.places in
    let values = c.args.pattern.now.values in
    let is : c.min-size.result ≡ min (length places) (length values) = c.min-size.ensures ∙ (λ i. min (c.size.ensures.count i) (c.size-2.ensures.count i)) in
    let all = values_in c.args.variables.now.values in
    let step = next all c.args.points.now places values c.loop-at.at c.min-size.result c.value.result c.value-in-loop-at.result c.number.result
    c.loop-at-test.true is c.value.ensures c.value-in-loop-at.ensures c.number.ensures in
    went_on g.met.K.TokenSink.laws _ _ _ _ _ _ (clause_tokens (denied_at all c.args.points.now (zip places values))) (Some (neg c.number.result) ∷ [])
    (left_over all c.args.points.now (drop c.loop-at.at (zip places values))) (left_over all c.args.points.now (drop (c.loop-at.at + 1) (zip places values)))
    c.loop-at.invariant c.in_ok-negative.ensures step

pub returns : goal.returns
unfolding left_over
returns g c =
    let places = c.args.pattern.now.places in
    let values = c.args.pattern.now.values in
    let is : c.min-size.result ≡ min (length places) (length values) = c.min-size.ensures ∙ (λ i. min (c.size.ensures.count i) (c.size-2.ensures.count i)) in
    let all = values_in c.args.variables.now.values in
    let whole : length (zip places values) ≤ c.loop-at.at = omega (arith, c.loop-at-test.false, is, length-zip places values) in
    last_taken g.met.K.TokenSink.laws _ _ _ _ _ _ (clause_tokens (denied_at all c.args.points.now (zip places values))) (None ∷ []) (left_over all c.args.points.now (drop c.loop-at.at (zip places values)))
    c.end_clause.result c.loop-at.invariant c.end_clause.ensures (ap (left_over all c.args.points.now) (none_after c.loop-at.at (zip places values) whole))
