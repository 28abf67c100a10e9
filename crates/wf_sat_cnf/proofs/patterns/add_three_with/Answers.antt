use Rattle.std.proofs.Common.{◌≡◌, ◌+◌, slice_index, map, vec_items, ap, ◌∙◌, subst, sym}
use Rattle.std.proofs.lemmas.Result.{on_ok_weaker}
use Rattle.wf_base.specs.Set.Sets.{values_in}
use Rattle.wf_sat_cnf.specs.Groups.{AreAllowed, AreFollowers, group_of}
use Rattle.wf_sat_cnf.specs.Patterns.{pattern_seen}
use Rattle.wf_sat_cnf.proofs.GroupLemmas.{allowed_more}
use Rattle.wf_sat_cnf.proofs.Steps.{with_allowed}
use Rattle.wf_base.proofs.OfStreams.Lemmas.{failed}
use Rattle.wf_sat_cnf.proofs.patterns.add_three_with.Goals as goal

pub returns : goal.returns
returns c =
    let values = values_in c.args.search.now.values in
    let places = c.args.search.now.places in
    let from = c.args.search.now.from in
    let fitting = c.args.search.now.fitting.now in
    let v = c.args.value in
    let next = c.value-next.result in
    let last = c.value-last.result in
    let lists = map (group_of v) c.args.three.now.groups.now in
    let lists_is : map vec_items c.deref.result.now ≡ lists = ap (map vec_items) c.deref.ensures.value ∙ c.in_ok-lists.ensures in
    let before : AreAllowed next last values lists c.in_ok-near.near = subst (λ ls. AreAllowed next last values ls c.in_ok-near.near) lists_is c.in_ok-near.ensures in
    let behind : AreFollowers next last fitting c.args.three.now.behind.now =
    subst (λ p. AreFollowers p last fitting c.args.three.now.behind.now) (sym c.value-next.ensures)
    (subst (λ q. AreFollowers (slice_index places (from + 1)) q fitting c.args.three.now.behind.now) (sym c.value-last.ensures) c.requires.behind) in
    let allowed = allowed_more next last values lists fitting c.in_ok-near.near c.args.three.now.behind.now c.narrow.new.self c.narrow.ensures behind before in
    on_ok_weaker c.add_last_two.result
    (with_allowed values places c.args.search.now.begun.now c.as_slice.result.now from v fitting c.deref-2.result.now lists c.narrow.new.self c.value-place.result next last
    (map pattern_seen c.args.found.now.items) (map pattern_seen c.add_last_two.new.found.items)
    c.value-place.ensures c.value-next.ensures c.value-last.ensures (c.as_slice.ensures ∙ c.longer-more.ensures) (c.deref-2.ensures.value ∙ c.in_ok-fit.ensures) allowed)
    c.add_last_two.ensures

pub returns-in_err-fit : goal.returns-in_err-fit
returns-in_err-fit c = failed c.from_residual.result _ c.from_residual.ensures.0

pub returns-in_err-lists : goal.returns-in_err-lists
returns-in_err-lists c = failed c.from_residual-in_err-lists.result _ c.from_residual-in_err-lists.ensures.0

pub returns-in_err-near : goal.returns-in_err-near
returns-in_err-near c = failed c.from_residual-in_err-near.result _ c.from_residual-in_err-near.ensures.0
