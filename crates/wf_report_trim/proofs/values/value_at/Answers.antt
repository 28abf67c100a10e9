use Rattle.std.proofs.Common.{◌≡◌, ◌<◌, ◌≤◌, Some, None, length, sym, ap, ◌∙◌, arith, subst}
use Rattle.std.proofs.lemmas.Option.{slice_get_within}
use Rattle.wf_model.specs.Limits.{most_executions}
use Rattle.wf_report_trim.specs.declared.stretch.Stretch.{Stretch}
use Rattle.wf_report_trim.proofs.LiftedValues.{looked}
use Rattle.wf_report_trim.proofs.values.value_at.Goals as goal

abbrev none : Stretch
none = record { before = 0; after = 0; each = 0 }

pub first_of-execution-requires : goal.first_of-execution-requires
first_of-execution-requires c = c.requires.point.is_there

pub simplex_of-requires : goal.simplex_of-requires
simplex_of-requires c =
    let k = c.requires.point in
    let wrapped : Some c.first_of-execution.result ≡ Some (k.execution, k.process) = sym c.first_of-execution.ensures ∙ k.appears in
    let same : c.first_of-execution.result ≡ (k.execution, k.process) = cc in
    omega (arith, ap (λ p. p.0) same, k.within)

pub bounds-stretches-simplex_of : goal.bounds-stretches-simplex_of
bounds-stretches-simplex_of c =
    let k = c.requires.point in
    let l = looked c.args.before.now c.args.after.now c.args.stretches.now c.args.point c.first_of-execution.result c.simplex_of.result none c.first_of-execution.ensures c.simplex_of.ensures k in
    omega (arith, l.number, slice_get_within c.args.stretches.now k.simplex k.stretch k.stretches_there)

pub earlier-requires-clause-begun : goal.earlier-requires-clause-begun
earlier-requires-clause-begun c =
    let k = c.requires.point in
    let l = looked c.args.before.now c.args.after.now c.args.stretches.now c.args.point c.first_of-execution.result c.simplex_of.result none c.first_of-execution.ensures c.simplex_of.ensures k in
    omega (arith, ap (λ (s : Stretch). s.after) l.stretch, l.execution, k.begun)

pub earlier-requires-clause-some : goal.earlier-requires-clause-some
earlier-requires-clause-some c =
    let k = c.requires.point in
    let l = looked c.args.before.now c.args.after.now c.args.stretches.now c.args.point c.first_of-execution.result c.simplex_of.result none c.first_of-execution.ensures c.simplex_of.ensures k in
    subst (λ (s : Stretch). 1 ≤ s.each) (sym l.stretch) k.some

pub earlier-requires-clause-few : goal.earlier-requires-clause-few
earlier-requires-clause-few c =
    let k = c.requires.point in
    let l = looked c.args.before.now c.args.after.now c.args.stretches.now c.args.point c.first_of-execution.result c.simplex_of.result none c.first_of-execution.ensures c.simplex_of.ensures k in
    subst (λ e. e ≤ most_executions) (sym l.place) k.few

pub point_at-requires : goal.point_at-requires
point_at-requires c =
    let k = c.requires.point in
    let l = looked c.args.before.now c.args.after.now c.args.stretches.now c.args.point c.first_of-execution.result c.simplex_of.result none c.first_of-execution.ensures c.simplex_of.ensures k in
    subst (λ e. e < length c.args.before.now.scopes) (sym (c.earlier.ensures ∙ l.place)) k.inside

pub bounds-values-earlier : goal.bounds-values-earlier
bounds-values-earlier c =
    let k = c.requires.point in
    let l = looked c.args.before.now c.args.after.now c.args.stretches.now c.args.point c.first_of-execution.result c.simplex_of.result none c.first_of-execution.ensures c.simplex_of.ensures k in
    let found : Some c.in-Some.earlier ≡ Some k.earlier_point = sym c.in-Some.is ∙ c.point_at.ensures ∙ l.point c.earlier.result c.earlier.ensures in
    let same : c.in-Some.earlier ≡ k.earlier_point = cc in
    omega (arith, same, k.is_point, c.requires.values)

pub unreachable-requires : goal.unreachable-requires
unreachable-requires c =
    let k = c.requires.point in
    let l = looked c.args.before.now c.args.after.now c.args.stretches.now c.args.point c.first_of-execution.result c.simplex_of.result none c.first_of-execution.ensures c.simplex_of.ensures k in
    let found : None ≡ Some k.earlier_point = sym c.in-None.is ∙ c.point_at.ensures ∙ l.point c.earlier.result c.earlier.ensures in
    absurd (let bad : ⊥ = cc in bad)
