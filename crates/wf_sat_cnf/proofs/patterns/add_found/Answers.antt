use Rattle.std.proofs.Common.{◌≡◌, ◌+◌, ◌++◌, map, vec_items, length, ◌∙◌, subst}
use Rattle.std.specs.Result.{OnOk}
use Rattle.wf_base.specs.Set.Sets.{values_in}
use Rattle.wf_sat_cnf.specs.Patterns.{pattern_seen}
use Rattle.wf_base.proofs.OfStreams.Lemmas.{failed}
use Rattle.wf_sat_cnf.proofs.Steps.{last_missing}
use Rattle.wf_sat_cnf.proofs.patterns.add_found.Goals as goal

pub returns-then-from-size : goal.returns-then-from-size
returns-then-from-size c =
    let last : c.args.search.now.from + 1 ≡ length c.args.search.now.places = c.if-from-size.true ∙ c.size.ensures.count in
    subst (λ ps. OnOk c.add_last.result (map pattern_seen c.add_last.new.found.items ≡ map pattern_seen c.args.found.now.items ++ ps))
    (last_missing (values_in c.args.search.now.values) c.args.search.now.places c.args.search.now.begun.now c.args.search.now.from c.args.search.now.fitting.now (map vec_items c.args.nearly.now) c.value-place.result (values_in c.values_at-there.result)
    (values_in c.difference.result) (values_in c.missing_at-missing.result) c.requires.from last c.value-place.ensures c.values_at-there.ensures c.difference.ensures c.missing_at-missing.ensures)
    c.add_last.ensures

pub returns-in_err-near : goal.returns-in_err-near
returns-in_err-near c = failed c.from_residual.result _ c.from_residual.ensures.0
