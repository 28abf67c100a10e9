use Rattle.std.proofs.Common.{take}
use Rattle.wf_sat_check.specs.Store.Alike.{IsSeenOf}
use Rattle.wf_sat_check.specs.Store.Literals.{IsDistinct}
use Rattle.wf_sat_check.proofs.store.alike.see.Given as goal

abbrev pub invariant-loop-literal : goal.invariant-loop-literal
invariant-loop-literal l = record {
  same : IsSeenOf (take l.literal-index l.clause) l.seen;
  distinct : IsDistinct l.seen;
}
