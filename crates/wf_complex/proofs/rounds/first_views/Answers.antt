use Rattle.std.proofs.Common.{◌≡◌, ◌<◌, length, get_or, Some, length-set, arith, sym, ap, ◌∙◌, subst}
use Rattle.wf_model.specs.Simplex.{values_of}
use Rattle.wf_model.specs.View.{base, base_views}
use Rattle.wf_simplex.specs.Entries.{value_at}
use Rattle.wf_task.proofs.Lemmas.{value_there}
use Rattle.wf_complex.specs.Rounds.{Extends}
use Rattle.wf_complex.proofs.RoundLemmas.{further, extends_with, one_more}
use Rattle.wf_complex.proofs.InputLemmas.{base_there, length-base_views, first_round}
use Rattle.wf_complex.proofs.rounds.first_views.Goals as goal

pub unreachable-requires : goal.unreachable-requires
unreachable-requires c =
    let there = value_there c.args.simplex.now c.loop-place.place c.colours-place-end.ensures.simplex (omega (arith, c.colours-place-end.ensures.count, c.loop-place-test.true)) in
    absurd (c.in_default.not-Some (get_or (values_of c.args.simplex.now) c.loop-place.place 0) (c.value.ensures ∙ ap (value_at c.args.simplex.now) c.colour-process.ensures ∙ there))

pub loop-place-preserved : goal.loop-place-preserved
loop-place-preserved c =
    let s = c.args.simplex.now in
    let within : c.loop-place.place < length c.args.simplex.now = omega (arith, c.colours-place-end.ensures.count, c.loop-place-test.true) in
    let there = value_there s c.loop-place.place c.colours-place-end.ensures.simplex within in
    let found : Some c.in-Some.value ≡ Some (get_or (values_of c.args.simplex.now) c.loop-place.place 0) = sym c.in-Some.is ∙ c.value.ensures ∙ ap (value_at c.args.simplex.now) c.colour-process.ensures ∙ there in
    let value : c.in-Some.value ≡ get_or (values_of c.args.simplex.now) c.loop-place.place 0 = cc in
    let there_is : base c.colour-process.result c.in-Some.value ≡ get_or (base_views s) c.loop-place.place (base 0 0) = (λ i. base (c.colour-process.ensures i) (value i)) ∙ base_there s c.loop-place.place within in
    let v = base c.colour-process.result c.in-Some.value in
    let step =
    further c.args.views.now c.loop-place.views c.loop-place.invariant.extends (base_views s) c.loop-place.place (omega (arith, within, length-base_views s)) c.loop-place.ids (omega (arith, within, c.loop-place.invariant.four, c.loop-place-test.true))
    c.loop-place.invariant.within c.loop-place.invariant.made c.base.new.self c.in_ok-ids.field-0
    (subst (Extends c.loop-place.views) (sym c.in_ok-ids.ensures.table) (extends_with c.loop-place.views v)) (one_more c.loop-place.views v c.base.new.self c.in_ok-ids.ensures.table) (c.in_ok-ids.ensures.stands ∙ ap Some there_is) in
    record { four = length-set c.loop-place.ids c.loop-place.place c.in_ok-ids.field-0 ∙ c.loop-place.invariant.four; extends = step.extends; few = omega (arith, c.loop-place.invariant.few, step.few); within = step.within; made = step.made }

pub returns-clause-views : goal.returns-clause-views
returns-clause-views c =
    first_round c.loop-place.views c.args.simplex.now c.loop-place.place c.loop-place.ids c.colours-place-end.ensures.simplex (omega (arith, c.colours-place-end.ensures.count, c.loop-place.auto.place-end)) (omega (arith, c.colours-place-end.ensures.count, c.loop-place-test.false))
    c.loop-place.invariant.within c.loop-place.invariant.made
