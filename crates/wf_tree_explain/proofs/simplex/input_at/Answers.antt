use Rattle.std.proofs.Common.{get_or, sym, ap, ◌∙◌}
use Rattle.wf_model.specs.Simplex.{values_of}
use Rattle.wf_simplex.specs.Entries.{value_at}
use Rattle.wf_task.proofs.Lemmas.{inner, value_there}
use Rattle.wf_tree_explain.proofs.simplex.input_at.Goals as goal

pub unreachable-requires : goal.unreachable-requires
unreachable-requires c =
    let s = c.args.simplex.now in
    c.in_default.not-Some (get_or (values_of s) c.args.place 0) (c.value.ensures ∙ ap (value_at s) c.colour-process.ensures ∙ value_there s c.args.place c.requires.simplex c.requires.place)

pub returns : goal.returns
returns c =
    let s = c.args.simplex.now in
    inner (sym c.in-Some.is ∙ c.value.ensures ∙ ap (value_at s) c.colour-process.ensures ∙ value_there s c.args.place c.requires.simplex c.requires.place)
