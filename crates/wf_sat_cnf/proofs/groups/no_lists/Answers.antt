use Rattle.wf_base.proofs.OfStreams.Lemmas.{none_given}
use Rattle.wf_sat_cnf.proofs.groups.no_lists.Goals as goal

pub returns-in_err-lists-clause-long : goal.returns-in_err-lists-clause-long
returns-in_err-lists-clause-long c = none_given c.from_residual.result _ c.from_residual.ensures.0

pub returns-in_err-lists-clause-none : goal.returns-in_err-lists-clause-none
returns-in_err-lists-clause-none c = none_given c.from_residual.result _ c.from_residual.ensures.0

pub returns-in_err-push-clause-long : goal.returns-in_err-push-clause-long
returns-in_err-push-clause-long c = none_given c.from_residual-in_err-push.result _ c.from_residual-in_err-push.ensures.0

pub returns-in_err-push-clause-none : goal.returns-in_err-push-clause-none
returns-in_err-push-clause-none c = none_given c.from_residual-in_err-push.result _ c.from_residual-in_err-push.ensures.0
