use Rattle.std.proofs.Common.{take}
use Rattle.std.specs.List.{All}
use Rattle.wf_sat_check.specs.Store.Index.{IsOther}
use Rattle.wf_sat_check.proofs.store.clause_db.find.Given as goal

abbrev pub invariant-loop-place : goal.invariant-loop-place
invariant-loop-place l = All (IsOther l.clauses l.hash l.clause) (take l.place l.entries)
