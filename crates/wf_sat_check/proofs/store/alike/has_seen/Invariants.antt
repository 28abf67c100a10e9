use Rattle.std.proofs.Common.{take}
use Rattle.wf_sat_check.specs.Store.Alike.{IsAmong}
use Rattle.wf_sat_check.proofs.store.alike.has_seen.Given as goal

abbrev pub invariant-loop-literal : goal.invariant-loop-literal
invariant-loop-literal l = IsAmong l.seen (take l.literal-index l.clause)
