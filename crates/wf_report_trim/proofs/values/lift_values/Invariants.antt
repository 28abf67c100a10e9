use Rattle.wf_report_trim.proofs.LiftedValues.{LiftedTo}
use Rattle.wf_report_trim.proofs.values.lift_values.Given as goal

abbrev pub invariant-loop-point : goal.invariant-loop-point
invariant-loop-point l = LiftedTo l.task l.before.rounds l.more l.point l.values l.lifted.items
