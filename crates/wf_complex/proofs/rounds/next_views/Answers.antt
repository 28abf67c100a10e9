use Rattle.std.proofs.Common.{◌<◌, length, length-set, arith, ◌∙◌, sym, subst, get_or, Some}
use Rattle.std.proofs.lemmas.List.Elements.{recursion_from_All}
use Rattle.wf_complex.specs.Rounds.{views_at, AreKnown}
use Rattle.wf_model.specs.View.{base, round}
use Rattle.wf_complex.proofs.RoundLemmas.{are_views_kept, views_kept, length-round, length-views, further, after_round}
use Rattle.wf_complex.proofs.rounds.next_views.Goals as goal

pub next_view-requires-clause-views : goal.next_view-requires-clause-views
next_view-requires-clause-views c = are_views_kept c.args.views.now c.loop-i.views c.args.current.now c.loop-i.invariant.extends c.requires.views

pub next_view-requires-clause-known : goal.next_view-requires-clause-known
next_view-requires-clause-known c =
    subst (λ vs. AreKnown c.loop-i.views vs c.loop-i.known) (sym (views_kept c.args.views.now c.loop-i.views c.args.current.now c.loop-i.invariant.extends (recursion_from_All _ c.args.current.now c.requires.views.within))) c.loop-i.invariant.known

pub returns-in_err-next-clause-known : goal.returns-in_err-next-clause-known
returns-in_err-next-clause-known c =
    subst (λ vs. AreKnown c.next_view.new.views vs c.next_view.new.known) (views_kept c.args.views.now c.loop-i.views c.args.current.now c.loop-i.invariant.extends (recursion_from_All _ c.args.current.now c.requires.views.within)) c.next_view.ensures.known

pub loop-i-preserved : goal.loop-i-preserved
loop-i-preserved c =
    let old = views_at c.args.views.now c.args.current.now in
    let w = c.args.sight.now.word in
    let kept = views_kept c.args.views.now c.loop-i.views c.args.current.now c.loop-i.invariant.extends (recursion_from_All _ c.args.current.now c.requires.views.within) in
    let within : c.loop-i.i < length c.args.current.now = omega (arith, c.requires.long, c.size-i-end.ensures.count, c.loop-i-test.true) in
    let long = length-views c.args.views.now c.args.current.now in
    let step =
    further c.args.views.now c.loop-i.views c.loop-i.invariant.extends (round old w) c.loop-i.i (omega (arith, within, long, length-round old w (long ∙ c.requires.long))) c.loop-i.next (omega (arith, c.loop-i.invariant.four, c.size-i-end.ensures.few, c.size-i-end.ensures.count, c.loop-i-test.true))
    c.loop-i.invariant.within c.loop-i.invariant.made c.next_view.new.views c.in_ok-next.field-0 c.next_view.ensures.extends c.next_view.ensures.few
    (c.in_ok-next.ensures.stands ∙ (λ k. Some (get_or (round (kept k) w) c.loop-i.i (base 0 0)))) in
    record {
      four = length-set c.loop-i.next c.loop-i.i c.in_ok-next.field-0 ∙ c.loop-i.invariant.four;
      extends = step.extends;
      few = omega (arith, c.loop-i.invariant.few, step.few);
      known = subst (λ vs. AreKnown c.next_view.new.views vs c.next_view.new.known) kept c.next_view.ensures.known;
      within = step.within;
      made = step.made;
    }

pub returns-clause-views : goal.returns-clause-views
returns-clause-views c =
    after_round c.args.views.now c.loop-i.views c.args.current.now c.args.sight.now.word c.requires.views c.requires.long c.loop-i.i (omega arith) (omega arith) c.loop-i.next c.loop-i.invariant.within c.loop-i.invariant.made
