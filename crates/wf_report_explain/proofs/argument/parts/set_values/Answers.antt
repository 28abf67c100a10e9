use Rattle.wf_base.proofs.OfStreams.Lemmas.{failed, none_given}
use Rattle.wf_report_explain.proofs.argument.parts.set_values.Goals as goal

pub returns-in_err-push-clause-values : goal.returns-in_err-push-clause-values
returns-in_err-push-clause-values c = failed c.from_residual.result _ c.from_residual.ensures.0

pub returns-in_err-push-clause-after : goal.returns-in_err-push-clause-after
returns-in_err-push-clause-after c = none_given c.from_residual.result _ c.from_residual.ensures.0

pub returns-in_err-push-clause-count : goal.returns-in_err-push-clause-count
returns-in_err-push-clause-count c = none_given c.from_residual.result _ c.from_residual.ensures.0

pub returns-in_err-push-clause-some : goal.returns-in_err-push-clause-some
returns-in_err-push-clause-some c = none_given c.from_residual.result _ c.from_residual.ensures.0

pub returns-in_err-push-clause-within : goal.returns-in_err-push-clause-within
returns-in_err-push-clause-within c = none_given c.from_residual.result _ c.from_residual.ensures.0

pub returns-in_err-push-2-clause-values : goal.returns-in_err-push-2-clause-values
returns-in_err-push-2-clause-values c = failed c.from_residual-in_err-push-2.result _ c.from_residual-in_err-push-2.ensures.0

pub returns-in_err-push-2-clause-after : goal.returns-in_err-push-2-clause-after
returns-in_err-push-2-clause-after c = none_given c.from_residual-in_err-push-2.result _ c.from_residual-in_err-push-2.ensures.0

pub returns-in_err-push-2-clause-count : goal.returns-in_err-push-2-clause-count
returns-in_err-push-2-clause-count c = none_given c.from_residual-in_err-push-2.result _ c.from_residual-in_err-push-2.ensures.0

pub returns-in_err-push-2-clause-some : goal.returns-in_err-push-2-clause-some
returns-in_err-push-2-clause-some c = none_given c.from_residual-in_err-push-2.result _ c.from_residual-in_err-push-2.ensures.0

pub returns-in_err-push-2-clause-within : goal.returns-in_err-push-2-clause-within
returns-in_err-push-2-clause-within c = none_given c.from_residual-in_err-push-2.result _ c.from_residual-in_err-push-2.ensures.0
