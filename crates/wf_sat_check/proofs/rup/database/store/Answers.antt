use Rattle.wf_sat_check.proofs.OfRup.KeptLemmas.{AddsClause-same}
use Rattle.wf_sat_check.proofs.rup.database.store.Goals as goal

pub returns-in_err-push-2-clause-sound : goal.returns-in_err-push-2-clause-sound
returns-in_err-push-2-clause-sound c = AddsClause-same c.args.clauses.now _ c.args.clause.now c.in_ok-push.ensures

pub returns-clause-sound : goal.returns-clause-sound
returns-clause-sound c = AddsClause-same c.args.clauses.now _ c.args.clause.now c.in_ok-push.ensures
