use Rattle.std.proofs.Common.{◌≤◌, sym, subst}
use Rattle.wf_run_verify.proofs.Lemmas.{own_rounds}
use Rattle.wf_run_report.proofs.LiftSteps.{lifted_report, map_long}
use Rattle.wf_run_report.proofs.lift.lift_map.Goals as goal

pub lift_values-requires-clause-after : goal.lift_values-requires-clause-after
lift_values-requires-clause-after c = own_rounds c.args.task.now c.args.rounds c.in_ok-after.after c.in_ok-after.ensures

pub lift_values-requires-clause-rounds : goal.lift_values-requires-clause-rounds
lift_values-requires-clause-rounds c = subst (λ n. c.args.protocol.now.rounds ≤ n) (sym c.in_ok-after.ensures.2.rounds_are) c.requires.more

pub lift_values-requires-clause-values : goal.lift_values-requires-clause-values
lift_values-requires-clause-values c = map_long c.args.task.now c.args.protocol.now.rounds c.args.protocol.now c.args.values.now c.requires.protocol.2 c.requires.map

pub returns : goal.returns
returns c =
    lifted_report c.args.task.now c.args.protocol.now.rounds c.args.rounds c.args.values.now c.in_ok-lifted.lifted.items c.in_ok-after.after c.about.result c.in_ok-write_report.field-0.items
    c.requires.map c.in_ok-after.ensures c.in_ok-lifted.ensures c.about.ensures c.in_ok-write_report.ensures.text
