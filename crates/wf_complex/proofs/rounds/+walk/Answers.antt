use Rattle.std.proofs.Common.{◌≡◌, ◌<◌, ◌≤◌, ◌+◌, ◌-◌, ◌*◌, ◌++◌, All, length, flat_map, arith, sym, ap, ◌∙◌, append-nil, subst}
use Rattle.std.proofs.Math.Nat.{mul-le-mul_right}
use Rattle.std.proofs.lemmas.List.{take_all, length-map}
use Rattle.std.proofs.lemmas.List.Elements.{recursion_from_All, All-from_recursion, All-get_or}
use Rattle.wf_model.specs.View.{round}
use Rattle.wf_complex.specs.declared.rounds.ImmediateSnapshot.{ImmediateSnapshot}
use Rattle.wf_complex.specs.Rounds.{views_at, words_in, IsSightOf, AreKnown, leaves, cost}
use Rattle.wf_complex.proofs.RoundLemmas.{extends_itself, extends_then, are_views_kept, within_kept, views_kept}
use Rattle.wf_complex.proofs.KnownLemmas.{none_known, known_kept}
use Rattle.wf_complex.proofs.WalkLemmas.{cost_more, leaves_more, turn_left, made_more, taken_length, word_there}
use Rattle.wf_complex.proofs.rounds.+walk.Goals as goal

pub loop-sight-init : goal.loop-sight-init
loop-sight-init t c = record {
  extends = extends_itself c.args.views.now;
  added = omega arith;
  known = none_known c.args.views.now (views_at c.args.views.now c.args.current.now);
  within = c.requires.lasts;
  made = sym (append-nil (views_at c.args.views.now c.args.lasts.now.items));
}

pub next_views-requires-clause-views : goal.next_views-requires-clause-views
next_views-requires-clause-views t c = are_views_kept c.args.views.now c.loop-sight.views c.args.current.now c.loop-sight.invariant.extends c.requires.views

pub next_views-requires-clause-known : goal.next_views-requires-clause-known
next_views-requires-clause-known t c = subst (λ vs. AreKnown c.loop-sight.views vs c.loop-sight.known) (sym (views_kept c.args.views.now c.loop-sight.views c.args.current.now c.loop-sight.invariant.extends (recursion_from_All _ c.args.current.now c.requires.views.within))) c.loop-sight.invariant.known

pub next_views-requires-clause-room : goal.next_views-requires-clause-room
next_views-requires-clause-room t c =
    let more = cost_more (length c.args.sights.now) (length c.args.current.now) c.args.rounds (omega arith) in
    let below : c.loop-sight.sight-index < length c.args.sights.now = omega (arith, c.loop-sight-test.true) in
    let left = turn_left c.loop-sight.sight-index (length c.args.sights.now) (length c.args.current.now + cost (length c.args.sights.now) (length c.args.current.now) (c.args.rounds - 1)) below in
    omega (arith, more, left, c.loop-sight.invariant.added, c.requires.room)

pub next_views-requires-clause-long : goal.next_views-requires-clause-long
next_views-requires-clause-long t c =
    let below : c.loop-sight.sight-index < length c.args.sights.now = omega (arith, c.loop-sight-test.true) in
    let s = c.sight-item.result in
    let here : IsSightOf (length c.args.current.now) c.sight-item.result = subst (IsSightOf (length c.args.current.now)) (sym c.sight-item.is) (All-get_or (IsSightOf (length c.args.current.now)) c.args.sights.now c.loop-sight.sight-index s below c.requires.sights) in
    sym here.0

pub next_views-requires-clause-sight : goal.next_views-requires-clause-sight
next_views-requires-clause-sight t c =
    let below : c.loop-sight.sight-index < length c.args.sights.now = omega (arith, c.loop-sight-test.true) in
    let s = c.sight-item.result in
    let here : IsSightOf (length c.args.current.now) c.sight-item.result = subst (IsSightOf (length c.args.current.now)) (sym c.sight-item.is) (All-get_or (IsSightOf (length c.args.current.now)) c.args.sights.now c.loop-sight.sight-index s below c.requires.sights) in
    here.1

pub returns-in_err-next-clause-extends : goal.returns-in_err-next-clause-extends
returns-in_err-next-clause-extends t c = extends_then c.args.views.now c.loop-sight.views c.next_views.new.views c.loop-sight.invariant.extends c.next_views.ensures.extends

pub returns-in_err-next-clause-added : goal.returns-in_err-next-clause-added
returns-in_err-next-clause-added t c =
    let more = cost_more (length c.args.sights.now) (length c.args.current.now) c.args.rounds (omega arith) in
    let below : c.loop-sight.sight-index < length c.args.sights.now = omega (arith, c.loop-sight-test.true) in
    let left = turn_left c.loop-sight.sight-index (length c.args.sights.now) (length c.args.current.now + cost (length c.args.sights.now) (length c.args.current.now) (c.args.rounds - 1)) below in
    omega (arith, more, left, c.loop-sight.invariant.added, c.next_views.ensures.few)

pub walk-requires : goal.walk-requires
walk-requires t c =
    let more = cost_more (length c.args.sights.now) (length c.args.current.now) c.args.rounds (omega arith) in
    let below : c.loop-sight.sight-index < length c.args.sights.now = omega (arith, c.loop-sight-test.true) in
    let left = turn_left c.loop-sight.sight-index (length c.args.sights.now) (length c.args.current.now + cost (length c.args.sights.now) (length c.args.current.now) (c.args.rounds - 1)) below in
    let s = c.sight-item.result in
    let here : IsSightOf (length c.args.current.now) c.sight-item.result = subst (IsSightOf (length c.args.current.now)) (sym c.sight-item.is) (All-get_or (IsSightOf (length c.args.current.now)) c.args.sights.now c.loop-sight.sight-index s below c.requires.sights) in
    let long = taken_length c.loop-sight.views c.next_views.new.views c.args.current.now c.in_ok-next.next s.word here.0 c.in_ok-next.ensures.views.1 in
    let same = ap (λ n. cost (length c.args.sights.now) n (c.args.rounds - 1)) long in (
      omega (arith, c.decreases),
      (
        omega (arith, long, c.requires.few),
        (
          subst (λ n. All (IsSightOf n) c.args.sights.now) (sym long) c.requires.sights,
          (
            c.in_ok-next.ensures.views.0,
            (
              All-from_recursion _ c.loop-sight.lasts.items (within_kept c.loop-sight.views c.next_views.new.views c.loop-sight.lasts.items c.next_views.ensures.extends (recursion_from_All _ c.loop-sight.lasts.items c.loop-sight.invariant.within)),
              omega (arith, same, more, left, c.loop-sight.invariant.added, c.next_views.ensures.few, c.requires.room),
            ),
          ),
        ),
      ),
    )

pub returns-in_err-walk-clause-extends : goal.returns-in_err-walk-clause-extends
returns-in_err-walk-clause-extends t c =
    extends_then c.args.views.now c.next_views.new.views c.walk.new.views (extends_then c.args.views.now c.loop-sight.views c.next_views.new.views c.loop-sight.invariant.extends c.next_views.ensures.extends) c.walk.ensures.extends

pub returns-in_err-walk-clause-added : goal.returns-in_err-walk-clause-added
returns-in_err-walk-clause-added t c =
    let more = cost_more (length c.args.sights.now) (length c.args.current.now) c.args.rounds (omega arith) in
    let below : c.loop-sight.sight-index < length c.args.sights.now = omega (arith, c.loop-sight-test.true) in
    let left = turn_left c.loop-sight.sight-index (length c.args.sights.now) (length c.args.current.now + cost (length c.args.sights.now) (length c.args.current.now) (c.args.rounds - 1)) below in
    let s = c.sight-item.result in
    let here : IsSightOf (length c.args.current.now) c.sight-item.result = subst (IsSightOf (length c.args.current.now)) (sym c.sight-item.is) (All-get_or (IsSightOf (length c.args.current.now)) c.args.sights.now c.loop-sight.sight-index s below c.requires.sights) in
    let long = taken_length c.loop-sight.views c.next_views.new.views c.args.current.now c.in_ok-next.next s.word here.0 c.in_ok-next.ensures.views.1 in
    let same = ap (λ n. cost (length c.args.sights.now) n (c.args.rounds - 1)) long in
    omega (arith, same, more, left, c.loop-sight.invariant.added, c.next_views.ensures.few, c.walk.ensures.added)

pub loop-sight-preserved : goal.loop-sight-preserved
loop-sight-preserved t c =
    let below : c.loop-sight.sight-index < length c.args.sights.now = omega (arith, c.loop-sight-test.true) in
    let s = c.sight-item.result in
    let here : IsSightOf (length c.args.current.now) c.sight-item.result = subst (IsSightOf (length c.args.current.now)) (sym c.sight-item.is) (All-get_or (IsSightOf (length c.args.current.now)) c.args.sights.now c.loop-sight.sight-index s below c.requires.sights) in
    let long = taken_length c.loop-sight.views c.next_views.new.views c.args.current.now c.in_ok-next.next s.word here.0 c.in_ok-next.ensures.views.1 in
    let same = ap (λ n. cost (length c.args.sights.now) n (c.args.rounds - 1)) long in
    let vs = views_at c.args.views.now c.args.current.now in
    let ws = words_in c.args.sights.now in
    let at = word_there c.args.sights.now c.loop-sight.sight-index s s below c.sight-item.is in
    let turns : (c.loop-sight.sight-index + 1) * (length c.args.current.now + cost (length c.args.sights.now) (length c.args.current.now) (c.args.rounds - 1)) ≡ c.loop-sight.sight-index * (length c.args.current.now + cost (length c.args.sights.now) (length c.args.current.now) (c.args.rounds - 1)) + (length c.args.current.now + cost (length c.args.sights.now) (length c.args.current.now) (c.args.rounds - 1)) = grind arith in
    let kept = (views_kept c.args.views.now c.loop-sight.views c.args.current.now c.loop-sight.invariant.extends (recursion_from_All _ c.args.current.now c.requires.views.within)) in
    record {
      extends = extends_then c.args.views.now c.next_views.new.views c.walk.new.views (extends_then c.args.views.now c.loop-sight.views c.next_views.new.views c.loop-sight.invariant.extends c.next_views.ensures.extends) c.walk.ensures.extends;
      added = omega (arith, same, turns, c.loop-sight.invariant.added, c.next_views.ensures.few, c.walk.ensures.added);
      known = known_kept c.next_views.new.views c.walk.new.views vs c.next_views.new.known c.walk.ensures.extends (subst (λ us. AreKnown c.next_views.new.views us c.next_views.new.known) kept c.next_views.ensures.known);
      within = c.in_ok-walk.ensures.within;
      made =
          made_more c.args.views.now c.args.lasts.now.items (λ w. leaves ws (c.args.rounds - 1) (round vs w)) ws c.loop-sight.sight-index s.word at
          c.loop-sight.views c.next_views.new.views c.walk.new.views c.loop-sight.lasts.items c.walk.new.lasts.items (recursion_from_All _ c.loop-sight.lasts.items c.loop-sight.invariant.within) c.next_views.ensures.extends c.loop-sight.invariant.made
          (c.in_ok-walk.ensures.made
          ∙ (λ i. views_at c.next_views.new.views c.loop-sight.lasts.items ++ leaves ws (c.args.rounds - 1) (c.in_ok-next.ensures.views.1 i))
          ∙ ap (λ us. views_at c.next_views.new.views c.loop-sight.lasts.items ++ leaves ws (c.args.rounds - 1) (round us s.word)) kept);
    }

pub returns-clause-added : goal.returns-clause-added
returns-clause-added t c =
    let more = cost_more (length c.args.sights.now) (length c.args.current.now) c.args.rounds (omega arith) in
    let turns : c.loop-sight.sight-index ≤ length c.args.sights.now = omega (arith, c.loop-sight.auto.sight-index-end) in
    let all : c.loop-sight.sight-index * (length c.args.current.now + cost (length c.args.sights.now) (length c.args.current.now) (c.args.rounds - 1)) ≤ length c.args.sights.now * (length c.args.current.now + cost (length c.args.sights.now) (length c.args.current.now) (c.args.rounds - 1)) = mul-le-mul_right (length c.args.current.now + cost (length c.args.sights.now) (length c.args.current.now) (c.args.rounds - 1)) turns in
    omega (arith, more, all, c.loop-sight.invariant.added)

pub returns-clause-made : goal.returns-clause-made
returns-clause-made t c =
    let vs = views_at c.args.views.now c.args.current.now in
    let ws = words_in c.args.sights.now in
    c.loop-sight.invariant.made
    ∙ ap (λ us. views_at c.args.views.now c.args.lasts.now.items ++ flat_map (λ w. leaves ws (c.args.rounds - 1) (round vs w)) us) (take_all c.loop-sight.sight-index ws (omega (arith, length-map c.args.sights.now (λ (x : ImmediateSnapshot). x.word), c.loop-sight-test.false)))
    ∙ ap (λ us. views_at c.args.views.now c.args.lasts.now.items ++ us) (sym (leaves_more ws c.args.rounds vs (omega arith)))
