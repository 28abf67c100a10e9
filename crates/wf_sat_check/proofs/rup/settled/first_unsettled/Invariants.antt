use Rattle.std.proofs.Common.{take}
use Rattle.std.specs.List.{All}
use Rattle.wf_sat_check.specs.Rup.Settled.{IsSettled}
use Rattle.wf_sat_check.specs.Rup.Stored.{kept_of}
use Rattle.wf_sat_check.proofs.rup.settled.first_unsettled.Given as goal

abbrev pub invariant-loop-number : goal.invariant-loop-number
invariant-loop-number l = All (IsSettled l.trail) (kept_of (take l.number l.clauses))
