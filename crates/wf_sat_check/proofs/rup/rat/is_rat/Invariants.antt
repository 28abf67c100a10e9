use Rattle.std.proofs.Common.{◌≡◌}
use Rattle.wf_sat_check.proofs.OfRup.ResolvingLemmas.{AreResolvedBefore}
use Rattle.wf_sat_check.proofs.rup.rat.is_rat.Given as goal

abbrev pub invariant-clauses : goal.invariant-clauses
invariant-clauses l = record {
  clauses : l.clauses ≡ l.initial.clauses;
  trail : l.trail ≡ l.initial.trail;
  resolved : AreResolvedBefore l.initial.clauses l.initial.trail l.lemma.clause.now l.negation l.number;
}
