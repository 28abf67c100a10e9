use Rattle.wf_base.proofs.OfStreams.Lemmas.{failed}
use Rattle.wf_report_explain.proofs.words.words.put_points.Goals as goal

pub returns-in_err-write : goal.returns-in_err-write
returns-in_err-write c = failed c.from_residual.result _ c.from_residual.ensures.0

pub returns-in_err-write-2 : goal.returns-in_err-write-2
returns-in_err-write-2 c = failed c.from_residual-in_err-write-2.result _ c.from_residual-in_err-write-2.ensures.0

pub returns-in_err-write-3 : goal.returns-in_err-write-3
returns-in_err-write-3 c = failed c.from_residual-in_err-write-3.result _ c.from_residual-in_err-write-3.ensures.0
