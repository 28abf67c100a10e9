use Rattle.std.proofs.Common.{◌≡◌, true, take}
use Rattle.wf_sat_cnf.specs.Reading.{has_no_feed}
use Rattle.wf_sat_cnf.proofs.solver.cut.Given as goal

abbrev pub invariant-loop-place : goal.invariant-loop-place
invariant-loop-place l = has_no_feed (take l.place l.text) ≡ true
