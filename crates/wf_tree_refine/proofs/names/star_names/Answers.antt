use Rattle.std.proofs.Common.{[], Err, get_or, length, map, sym, ap, ◌∙◌, arith}
use Rattle.std.proofs.lemmas.Grind.{get_or_default_zero}
use Rattle.std.proofs.lemmas.List.{length-map}
use Rattle.std.proofs.lemmas.Result.{err_from_is_err_and}
use Rattle.wf_tree_model.specs.Parts.{parts}
use Rattle.wf_tree_model.specs.Splits.{hang_together, names_of}
use Rattle.wf_tree_refine.specs.Near.{part_of}
use Rattle.wf_tree_refine.proofs.Membership.{once_in_order}
use Rattle.wf_tree_refine.proofs.NameSteps.{length-names_of}
use Rattle.wf_tree_refine.proofs.StarNames.{star_named, star_numbered, star_refused}
use Rattle.wf_tree_refine.proofs.names.star_names.Goals as goal

pub returns-in_err-names-clause-refused : goal.returns-in_err-names-clause-refused
returns-in_err-names-clause-refused c = λ e.
    let rows = c.args.rows.now in
    let place = c.args.place in
    let n = length c.args.simplex.now in
    let ps = parts (hang_together n place) rows in
    let once = once_in_order rows c.requires.ascending in
    let are = c.deref.ensures.value ∙ c.in_ok-numbers.ensures ∙ ap (λ m. map (part_of (parts (hang_together m place) rows)) rows) c.colours.ensures.count in
    let p = err_from_is_err_and c.from_residual-in_err-names.result c.from_residual-in_err-names.ensures.1 in
    star_refused n place c.requires.inside rows once c.deref.result.now are c.args.new
    (c.in_err-names.ensures.refused (ap Err (sym p.2) ∙ sym p.1 ∙ e) ps (star_numbered n place c.requires.inside rows once c.deref.result.now are))

pub names_by_component-requires : goal.names_by_component-requires
names_by_component-requires c = λ k d low.
    let rows = c.args.rows.now in
    let place = c.args.place in
    let n = length c.args.simplex.now in
    let ps = parts (hang_together n place) rows in
    let once = once_in_order rows c.requires.ascending in
    let are = c.deref.ensures.value ∙ c.in_ok-numbers.ensures ∙ ap (λ m. map (part_of (parts (hang_together m place) rows)) rows) c.colours.ensures.count in
    let numbered = star_numbered n place c.requires.inside rows once c.deref.result.now are in
    let names = c.deref-3.ensures.value ∙ c.in_ok-names.ensures.names ps numbered in
    let same = c.deref-2.ensures.value ∙ sym c.deref.ensures.value in
    let each = ap length same ∙ ap length are ∙ length-map rows (part_of ps) in
    let known = numbered.known k (omega (arith, low, each)) in
    let at = get_or_default_zero c.deref-2.result.now k d low ∙ ap (λ ns. get_or ns k 0) same in
    let long = ap length names ∙ length-names_of place c.args.new [] ps in
    omega (arith, known, at, long)

pub returns-clause-names : goal.returns-clause-names
returns-clause-names c =
    let rows = c.args.rows.now in
    let place = c.args.place in
    let n = length c.args.simplex.now in
    let ps = parts (hang_together n place) rows in
    let once = once_in_order rows c.requires.ascending in
    let are = c.deref.ensures.value ∙ c.in_ok-numbers.ensures ∙ ap (λ m. map (part_of (parts (hang_together m place) rows)) rows) c.colours.ensures.count in
    let numbered = star_numbered n place c.requires.inside rows once c.deref.result.now are in
    let names = c.deref-3.ensures.value ∙ c.in_ok-names.ensures.names ps numbered in
    let same = c.deref-2.ensures.value ∙ sym c.deref.ensures.value in
    star_named n place c.requires.inside rows once c.deref.result.now are c.args.new c.in_ok-names_by_component.field-0.items
    (c.in_ok-names_by_component.ensures ∙ ap (λ ns. map (λ k. get_or ns k 0) c.deref-2.result.now) names ∙ ap (map (λ k. get_or (names_of place c.args.new [] ps) k 0)) same)
