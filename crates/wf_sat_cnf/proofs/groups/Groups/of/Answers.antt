use Rattle.wf_base.proofs.OfStreams.Lemmas.{none_given}
use Rattle.wf_sat_cnf.proofs.groups.Groups.of.Goals as goal

pub returns-in_err-lists : goal.returns-in_err-lists
returns-in_err-lists c = none_given c.from_residual.result _ c.from_residual.ensures.0

pub returns-in_err-put : goal.returns-in_err-put
returns-in_err-put c = none_given c.from_residual-in_err-put.result _ c.from_residual-in_err-put.ensures.0
