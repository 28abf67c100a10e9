use Rattle.std.proofs.Common.{get_or, sym, ap, ap₂, ◌∙◌}
use Rattle.wf_model.specs.Simplex.{values_of}
use Rattle.wf_simplex.specs.Entries.{value_at}
use Rattle.wf_task.proofs.Lemmas.{inner, value_there}
use Rattle.wf_tree_steps.specs.Balance.Keys.{label}
use Rattle.wf_tree_steps.proofs.OfBalance.Digits.{label_there}
use Rattle.wf_tree_steps.proofs.balance.key.label_at.Goals as goal

pub unreachable-requires : goal.unreachable-requires
unreachable-requires c =
    let s = c.args.simplex.now in
    let there = value_there s c.args.place c.colours.ensures.simplex c.requires in
    c.in_default.not-Some (get_or (values_of s) c.args.place 0) (c.value.ensures ∙ ap (value_at s) c.colour-process.ensures ∙ there)

pub returns-clause-same : goal.returns-clause-same
returns-clause-same c =
    let s = c.args.simplex.now in
    let there = value_there s c.args.place c.colours.ensures.simplex c.requires in
    c.label_of.ensures.same
    ∙ ap₂ (λ p x. label c.args.symmetric (p, x)) c.colour-process.ensures (inner (sym c.in-Some.is ∙ c.value.ensures ∙ ap (value_at s) c.colour-process.ensures ∙ there))
    ∙ label_there c.args.symmetric s c.args.place c.requires
