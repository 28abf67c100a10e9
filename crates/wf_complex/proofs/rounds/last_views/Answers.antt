use Rattle.std.proofs.Common.{◌≡◌, ◌<◌, ◌+◌, ℕ, All, length, take, length-take, arith, sym, ap, ◌∙◌, subst}
use Rattle.std.proofs.lemmas.List.{length-map}
use Rattle.std.proofs.lemmas.List.Elements.{All-from_recursion, recursion_from_All}
use Rattle.wf_model.specs.Word.{words}
use Rattle.wf_complex.specs.declared.rounds.ImmediateSnapshot.{ImmediateSnapshot}
use Rattle.wf_complex.specs.Rounds.{cost_of_each, words_in, AreSights, AreViews, IsSightOf}
use Rattle.wf_complex.proofs.RoundLemmas.{extends_then, within_kept}
use Rattle.wf_complex.proofs.InputLemmas.{long, room_after, room_for, made_after}
use Rattle.wf_complex.proofs.rounds.last_views.Goals as goal

pub first_views-requires : goal.first_views-requires
first_views-requires c = omega (arith, c.loop-simplex.invariant.room, c.requires.room)

pub returns-in_err-first-clause-extends : goal.returns-in_err-first-clause-extends
returns-in_err-first-clause-extends c = extends_then c.args.views.now c.loop-simplex.views c.first_views.new.views c.loop-simplex.invariant.extends c.first_views.ensures.extends

pub returns-in_err-make-clause-extends : goal.returns-in_err-make-clause-extends
returns-in_err-make-clause-extends c = extends_then c.args.views.now c.loop-simplex.views c.first_views.new.views c.loop-simplex.invariant.extends c.first_views.ensures.extends

pub walk-requires-clause-few : goal.walk-requires-clause-few
walk-requires-clause-few c = omega (arith, length-take c.colours-size.result c.in_ok-first.first, c.colours-size.ensures.few)

pub walk-requires-clause-sights : goal.walk-requires-clause-sights
walk-requires-clause-sights c =
    let n = c.colours-size.result in
    let ids = c.in_ok-first.first in
    let s = c.simplex-item.result in
    let ready : AreSights c.args.plan.first_block c.make.new.self.size c.make.new.self.sights.items = c.in_ok-make.ensures.made (omega (arith, c.in_ok-make.ensures.size, c.colours-size.ensures.some)) in
    let count : c.colours-size.result ≡ length s = c.colours-size.ensures.count in
    let are : c.make.new.self.size ≡ length (take n ids) = c.in_ok-make.ensures.size ∙ count ∙ sym (long c.args.plan.first_block c.args.plan.rounds c.args.simplices.now c.loop-simplex.simplex-index s (omega (arith, c.loop-simplex-test.true)) c.simplex-item.is ids n count c.loop-simplex.views c.first_views.new.views c.first_views.new.views c.in_ok-first.ensures.views.1) in
    subst (λ (k : ℕ). All (IsSightOf k) c.deref.result.now) are (subst (All (IsSightOf c.make.new.self.size)) (sym c.deref.ensures.value) ready.1)

pub walk-requires-clause-views : goal.walk-requires-clause-views
walk-requires-clause-views c = subst (λ (k : ℕ). AreViews c.first_views.new.views (take k c.in_ok-first.first)) (sym c.colours-size.ensures.count) c.in_ok-first.ensures.views.0

pub walk-requires-clause-lasts : goal.walk-requires-clause-lasts
walk-requires-clause-lasts c =
    let old = c.loop-simplex.views in
    let now = c.first_views.new.views in
    let lasts = c.loop-simplex.lasts.items in
    All-from_recursion _ lasts (within_kept old now lasts c.first_views.ensures.extends (recursion_from_All _ lasts c.loop-simplex.invariant.within))

pub walk-requires-clause-room : goal.walk-requires-clause-room
walk-requires-clause-room c =
    let m = c.args.plan.first_block in
    let ss = c.args.simplices.now in
    let i = c.loop-simplex.simplex-index in
    let s = c.simplex-item.result in
    let n = c.colours-size.result in
    let place : c.loop-simplex.simplex-index < length c.args.simplices.now = omega (arith, c.loop-simplex-test.true) in
    let views = c.in_ok-first.ensures.views.1 in
    let sights = c.deref.result.now in
    let ready : AreSights c.args.plan.first_block c.make.new.self.size c.make.new.self.sights.items = c.in_ok-make.ensures.made (omega (arith, c.in_ok-make.ensures.size, c.colours-size.ensures.some)) in
    let are : words_in c.deref.result.now ≡ words c.args.plan.first_block c.colours-size.result = ap words_in c.deref.ensures.value ∙ ready.0 ∙ ap (words m) c.in_ok-make.ensures.size in
    let counted : length c.deref.result.now ≡ length (words_in c.deref.result.now) = sym (length-map c.deref.result.now (λ (x : ImmediateSnapshot). x.word)) in
    omega (
      arith,
      room_for m c.args.plan.rounds ss i s place c.simplex-item.is c.in_ok-first.first n c.colours-size.ensures.count c.loop-simplex.views c.first_views.new.views c.first_views.new.views views (words_in sights) are (length sights) (length c.args.views.now + cost_of_each c.args.plan.first_block c.args.plan.rounds ss) counted c.loop-simplex.invariant.room c.first_views.ensures.few,
      c.requires.room,
    )

pub returns-in_err-walk-clause-extends : goal.returns-in_err-walk-clause-extends
returns-in_err-walk-clause-extends c =
    extends_then c.args.views.now c.first_views.new.views c.walk.new.views
    (extends_then c.args.views.now c.loop-simplex.views c.first_views.new.views c.loop-simplex.invariant.extends c.first_views.ensures.extends) c.walk.ensures.extends

pub loop-simplex-preserved : goal.loop-simplex-preserved
loop-simplex-preserved c =
    let m = c.args.plan.first_block in
    let ss = c.args.simplices.now in
    let i = c.loop-simplex.simplex-index in
    let s = c.simplex-item.result in
    let n = c.colours-size.result in
    let place : c.loop-simplex.simplex-index < length c.args.simplices.now = omega (arith, c.loop-simplex-test.true) in
    let views = c.in_ok-first.ensures.views.1 in
    let sights = c.deref.result.now in
    let ready : AreSights c.args.plan.first_block c.make.new.self.size c.make.new.self.sights.items = c.in_ok-make.ensures.made (omega (arith, c.in_ok-make.ensures.size, c.colours-size.ensures.some)) in
    let are : words_in c.deref.result.now ≡ words c.args.plan.first_block c.colours-size.result = ap words_in c.deref.ensures.value ∙ ready.0 ∙ ap (words m) c.in_ok-make.ensures.size in
    let counted : length c.deref.result.now ≡ length (words_in c.deref.result.now) = sym (length-map c.deref.result.now (λ (x : ImmediateSnapshot). x.word)) in
    record {
      extends = extends_then c.args.views.now c.first_views.new.views c.walk.new.views (extends_then c.args.views.now c.loop-simplex.views c.first_views.new.views c.loop-simplex.invariant.extends c.first_views.ensures.extends) c.walk.ensures.extends;
      room = room_after m c.args.plan.rounds ss i s place c.simplex-item.is c.in_ok-first.first n c.colours-size.ensures.count c.loop-simplex.views c.first_views.new.views c.walk.new.views views (words_in sights) are (length sights) (length c.args.views.now + cost_of_each c.args.plan.first_block c.args.plan.rounds ss) counted c.loop-simplex.invariant.room c.first_views.ensures.few c.walk.ensures.added;
      prepared = c.in_ok-make.ensures.made;
      within = c.in_ok-walk.ensures.within;
      made =
          made_after m c.args.plan.rounds ss i s place c.simplex-item.is c.in_ok-first.first n c.colours-size.ensures.count c.loop-simplex.views c.first_views.new.views c.walk.new.views views (words_in sights) are c.loop-simplex.lasts.items c.walk.new.lasts.items
          (recursion_from_All _ c.loop-simplex.lasts.items c.loop-simplex.invariant.within) c.first_views.ensures.extends c.loop-simplex.invariant.made c.in_ok-walk.ensures.made;
    }
