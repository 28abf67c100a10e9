use Rattle.std.proofs.Common.{◌≡◌, ◌++◌, [], ◌∷◌, map, vec_items, ap, ◌∙◌}
use Rattle.std.proofs.lemmas.Result.{on_ok_weaker}
use Rattle.wf_base.specs.Set.Sets.{values_in}
use Rattle.wf_sat_cnf.specs.Groups.{group_of}
use Rattle.wf_sat_cnf.specs.Patterns.{pattern_seen}
use Rattle.wf_sat_cnf.proofs.Steps.{with_lists}
use Rattle.wf_base.proofs.OfStreams.Lemmas.{failed}
use Rattle.wf_sat_cnf.proofs.patterns.add_four_with.Goals as goal

pub returns : goal.returns
returns c =
    let v = c.args.value in
    let fitting = c.args.search.now.fitting.now in
    let lists = map (group_of v) c.args.groups.now in
    let near : map vec_items c.deref-2.result.now ≡ lists ++ fitting ∷ [] = ap (map vec_items) c.deref-2.ensures.value ∙ c.in_ok-near.ensures in
    on_ok_weaker c.add_last_three.result
    (with_lists (values_in c.args.search.now.values) c.args.search.now.places c.args.search.now.begun.now c.as_slice.result.now c.args.search.now.from v fitting c.deref.result.now lists (map vec_items c.deref-2.result.now) c.value-place.result
    (map pattern_seen c.args.found.now.items) (map pattern_seen c.add_last_three.new.found.items)
    c.value-place.ensures (c.as_slice.ensures ∙ c.longer-more.ensures) (c.deref.ensures.value ∙ c.in_ok-fit.ensures) near)
    c.add_last_three.ensures

pub returns-in_err-fit : goal.returns-in_err-fit
returns-in_err-fit c = failed c.from_residual.result _ c.from_residual.ensures.0

pub returns-in_err-near : goal.returns-in_err-near
returns-in_err-near c = failed c.from_residual-in_err-near.result _ c.from_residual-in_err-near.ensures.0
