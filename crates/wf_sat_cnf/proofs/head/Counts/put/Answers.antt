use Rattle.wf_base.proofs.OfStreams.Lemmas.{failed}
use Rattle.wf_sat_cnf.proofs.head.Counts.put.Goals as goal

pub returns-in_err-put_words : goal.returns-in_err-put_words
returns-in_err-put_words c = failed c.from_residual.result _ c.from_residual.ensures.0

pub returns-in_err-put_number : goal.returns-in_err-put_number
returns-in_err-put_number c = failed c.from_residual-in_err-put_number.result _ c.from_residual-in_err-put_number.ensures.0

pub returns-in_err-put_number-2 : goal.returns-in_err-put_number-2
returns-in_err-put_number-2 c = failed c.from_residual-in_err-put_number-2.result _ c.from_residual-in_err-put_number-2.ensures.0

pub returns-in_err-put_number-3 : goal.returns-in_err-put_number-3
returns-in_err-put_number-3 c = failed c.from_residual-in_err-put_number-3.result _ c.from_residual-in_err-put_number-3.ensures.0
