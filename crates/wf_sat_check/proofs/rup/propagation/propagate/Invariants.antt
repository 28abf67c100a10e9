use Rattle.std.proofs.Common.{◌≡◌}
use Rattle.wf_sat_check.specs.Rup.Propagation.{Extends}
use Rattle.wf_sat_check.specs.Rup.Stored.{kept_of}
use Rattle.wf_sat_check.proofs.rup.propagation.propagate.Given as goal

abbrev pub invariant-loop-place : goal.invariant-loop-place
invariant-loop-place l = record {
  clauses : l.clauses ≡ l.initial.clauses;
  trail : Extends (kept_of l.initial.clauses) l.initial.trail l.trail;
}
