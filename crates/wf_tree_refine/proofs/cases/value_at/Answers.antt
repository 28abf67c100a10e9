use Rattle.std.proofs.Common.{get_or, sym, ap, ◌∙◌}
use Rattle.wf_model.specs.Simplex.{values_of}
use Rattle.wf_simplex.specs.Entries.{value_at}
use Rattle.wf_task.proofs.Lemmas.{inner, value_there}
use Rattle.wf_tree_refine.proofs.cases.value_at.Goals as goal

pub unreachable-requires : goal.unreachable-requires
unreachable-requires c =
    let s = c.args.simplex.now in
    let there = value_there s c.args.place c.colours.ensures.simplex c.requires in
    c.in_default.not-Some (get_or (values_of s) c.args.place 0) (c.value.ensures ∙ ap (value_at s) c.colour.ensures ∙ there)

pub returns : goal.returns
returns c =
    let s = c.args.simplex.now in
    let there = value_there s c.args.place c.colours.ensures.simplex c.requires in
    inner (sym c.in-Some.is ∙ c.value.ensures ∙ ap (value_at s) c.colour.ensures ∙ there)
