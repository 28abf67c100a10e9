use Rattle.std.proofs.Common.{is_ok}
use Rattle.wf_sat_check.proofs.OfStore.CatalogueLemmas.{indexed-either}
use Rattle.wf_sat_check.proofs.OfStore.FirstsLemmas.{firsts-either}
use Rattle.wf_sat_check.proofs.store.clause_db.ClauseDb.push.Goals as goal

pub invariant_of-self-2 : goal.invariant_of-self-2
invariant_of-self-2 c = (
  indexed-either c.self.inside.clauses c.push-2.new.self c.self.inside.index c.push.new.self c.args.clause.now c.in_ok-hash.hash c.len-number.result (is_ok c.push-2.result)
      c.self.invariant.0 c.push.ensures.still c.in_ok-hash.ensures c.len-number.ensures c.in_ok-push.ensures.found c.push-2.ensures,
  firsts-either c.self.inside.firsts c.note.new.self c.self.inside.clauses c.push-2.new.self c.args.clause.now c.len-number.result (is_ok c.push-2.result)
      c.self.invariant.1 c.note.ensures.still c.len-number.ensures c.in_ok-note.ensures.noted c.push-2.ensures,
)
