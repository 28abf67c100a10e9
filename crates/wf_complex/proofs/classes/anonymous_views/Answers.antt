use Rattle.std.proofs.Common.{◌<◌, length, All, subst, sym, arith, length-append, ap, ◌∙◌}
use Rattle.wf_complex.specs.Rounds.{views_at}
use Rattle.wf_complex.proofs.RoundLemmas.{extends_longer, extends_then}
use Rattle.wf_complex.proofs.ClassLemmas.{low, shallow_there, normal_more}
use Rattle.wf_complex.proofs.classes.anonymous_views.Goals as goal

pub normal-requires-clause-id : goal.normal-requires-clause-id
normal-requires-clause-id c =
    let place : c.loop-id.id-index < length c.args.ids.now = omega arith in
    let there = low c.args.views.now c.loop-id.views c.loop-id.invariant.extends c.args.ids.now c.loop-id.id-index place c.requires.ids in
    omega (arith, there, extends_longer c.args.views.now c.loop-id.views c.loop-id.invariant.extends)

pub normal-requires-clause-room : goal.normal-requires-clause-room
normal-requires-clause-room c =
    let place : c.loop-id.id-index < length c.args.ids.now = omega arith in
    let shallow = shallow_there c.args.views.now c.loop-id.views c.loop-id.invariant.extends c.args.ids.now c.loop-id.id-index place c.requires.ids c.requires.shallow in
    omega (arith, place, shallow, c.loop-id.invariant.few, c.requires.room)

pub loop-id-preserved : goal.loop-id-preserved
loop-id-preserved c =
    let old = c.args.views.now in
    let now = c.loop-id.views in
    let ids = c.args.ids.now in
    let i = c.loop-id.id-index in
    let place : c.loop-id.id-index < length c.args.ids.now = omega arith in
    let grows = c.in_ok-number.ensures.grows in
    let shallow = shallow_there old now c.loop-id.invariant.extends ids i place c.requires.ids c.requires.shallow in
    let more = normal_more old now c.loop-id.invariant.extends ids i place c.requires.ids c.loop-id.normals.items c.loop-id.invariant.within c.loop-id.invariant.made c.normal.new.self (grows.0, grows.1) c.in_ok-number.number c.in_ok-number.ensures.stands in
    record {
      extends = extends_then old now c.normal.new.self c.loop-id.invariant.extends (grows.0, grows.1);
      few = omega (arith, ap length grows.1, length-append now grows.0, grows.2, shallow, c.loop-id.invariant.few);
      within = subst (All (λ k. k < length c.normal.new.self)) (sym c.in_ok-push.ensures.items) more.0;
      made = ap (views_at c.normal.new.self) c.in_ok-push.ensures.items ∙ more.1;
    }
