use Rattle.std.proofs.Common.{◌≡◌, ℕ, take}
use Rattle.wf_model.specs.Lists.{has}
use Rattle.wf_base.specs.Set.Sets.{values_in}
use Rattle.wf_report_explain.specs.Argument.ArgumentState.{occurs}
use Rattle.wf_report_explain.proofs.argument.reasons.values_at.Given as goal

abbrev pub invariant-loop-tuple : goal.invariant-loop-tuple
invariant-loop-tuple l = (v : ℕ) → has (values_in l.set) v ≡ occurs (take l.tuple-index l.tuples) l.place v
