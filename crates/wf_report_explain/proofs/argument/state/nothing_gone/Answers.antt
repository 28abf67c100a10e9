use Rattle.wf_base.proofs.OfStreams.Lemmas.{none_given}
use Rattle.wf_report_explain.proofs.argument.state.nothing_gone.Goals as goal

pub returns-in_err-push : goal.returns-in_err-push
returns-in_err-push c = none_given c.from_residual.result _ c.from_residual.ensures.0
