use Rattle.std.proofs.Common.{◌≡◌, take}
use Rattle.wf_sat_check.specs.Rup.Stored.{kept_of}
use Rattle.wf_sat_check.proofs.rup.database.Database.compact.Given as goal

abbrev pub invariant-clauses : goal.invariant-clauses
invariant-clauses l = record {
  trail : l.self-inside.trail ≡ l.initial.self-inside.trail;
  clauses : l.self-inside.clauses ≡ l.initial.self-inside.clauses;
  refuted : l.self-inside.is_refuted ≡ l.initial.self-inside.is_refuted;
  kept : kept_of l.clauses ≡ kept_of (take l.number l.initial.self-inside.clauses);
}
