use Rattle.std.proofs.Common.{◌≡◌, ◌≤◌, vec_len}
use Rattle.std.specs.Prelude.{IsTrue}
use Rattle.wf_sat_check.specs.Rup.Propagation.{Conflicts, Extends}
use Rattle.wf_sat_check.specs.Rup.Stored.{kept_of}
use Rattle.wf_sat_check.proofs.rup.propagation.visit_watchers.Given as goal

abbrev pub invariant-loop-at : goal.invariant-loop-at
invariant-loop-at l = record {
  kept : l.kept ≤ l.seen;
  seen : l.seen ≤ l.at;
  sized : vec_len l.list ≡ l.at-end;
  clauses : l.clauses ≡ l.initial.clauses;
  trail : Extends (kept_of l.initial.clauses) l.initial.trail l.trail;
  fails : IsTrue l.fails → Conflicts (kept_of l.initial.clauses) l.initial.trail;
}
