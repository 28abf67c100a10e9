use Rattle.std.proofs.Common.{◌≡◌, take}
use Rattle.wf_sat_cnf.specs.Found.{having}
use Rattle.wf_sat_cnf.proofs.tuples.having.Given as goal

abbrev pub invariant-loop-tuple : goal.invariant-loop-tuple
invariant-loop-tuple l = l.found.items ≡ having l.place l.value (take l.tuple-index l.tuples)
