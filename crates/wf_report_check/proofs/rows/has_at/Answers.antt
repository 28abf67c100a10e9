use Rattle.std.proofs.Common.{◌∙◌, sym}
use Rattle.std.proofs.lemmas.Bool.{le-ltb}
use Rattle.wf_model.proofs.Lemmas.{has_at_past, has_at_place}
use Rattle.wf_report_check.proofs.rows.has_at.Goals as goal

pub returns-then-place-values : goal.returns-then-place-values
returns-then-place-values c = sym (has_at_place c.args.values.now c.args.place c.args.value c.if-place-values.true)

pub returns-else-place-values : goal.returns-else-place-values
returns-else-place-values c = le-ltb c.args.place _ c.if-place-values.false ∙ sym (has_at_past c.args.values.now c.args.place c.args.value c.if-place-values.false)
