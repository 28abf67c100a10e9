use Rattle.std.proofs.Common.{◌≡◌, ◌<◌, ◌+◌, ◌++◌, map, vec_items, length, ap, ◌∙◌, arith}
use Rattle.wf_base.specs.Set.Sets.{values_in}
use Rattle.wf_sat_cnf.specs.Found.{found_with, having}
use Rattle.wf_sat_cnf.specs.Groups.{group_of}
use Rattle.wf_sat_cnf.specs.Patterns.{pattern_seen}
use Rattle.wf_base.proofs.OfStreams.Lemmas.{failed}
use Rattle.wf_sat_cnf.proofs.Steps.{before_more, one_list_more}
use Rattle.wf_sat_cnf.proofs.patterns.add_all_four.Goals as goal

pub values-init : goal.values-init
values-init c =
    let low : c.args.search.now.from + 1 < length c.args.search.now.places = omega (arith, c.requires.from) in
    ap (λ ps. map pattern_seen c.args.found.now.items ++ ps)
    (before_more (values_in c.args.search.now.values) c.args.search.now.places c.args.search.now.begun.now c.args.search.now.from c.args.search.now.fitting.now (map vec_items c.args.nearly.now) c.value-place.result (values_in c.values_at.result)
    (values_in c.intersection-left.result) low c.value-place.ensures c.values_at.ensures c.intersection-left.ensures)

pub values-preserved : goal.values-preserved
values-preserved c =
    let nearly = map vec_items c.args.nearly.now in
    let v = c.in-Some.split.0 in
    let with_it = found_with (values_in c.args.search.now.values) c.args.search.now.places c.args.search.now.from c.args.search.now.begun.now c.args.search.now.fitting.now nearly in
    let lists : map (group_of v) c.deref.result.now ≡ map (having c.value-place.result v) nearly = ap (map (group_of v)) c.deref.ensures.value ∙ c.in_ok-groups.ensures v (omega arith) in
    one_list_more with_it (map pattern_seen c.values.found.items) (with_it v) (map pattern_seen c.add_four_with.new.found.items) v
    (values_in c.values.left) (values_in c.in-Some.split.1) _ (c.in_ok-add_four_with.ensures nearly (lists ∙ ap (λ p. map (having p v) nearly) c.value-place.ensures)) c.in-Some.ensures
    (λ i. with_it v) c.values.invariant

pub returns-in_err-groups : goal.returns-in_err-groups
returns-in_err-groups c = failed c.from_residual.result _ c.from_residual.ensures.0

pub returns-in_err-add_four_with : goal.returns-in_err-add_four_with
returns-in_err-add_four_with c = failed c.from_residual-in_err-add_four_with.result _ c.from_residual-in_err-add_four_with.ensures.0
