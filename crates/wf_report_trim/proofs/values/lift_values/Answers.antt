use Rattle.std.proofs.Common.{◌≡◌, ◌<◌, ◌+◌, ◌-◌, length, sym, ap, ◌∙◌, arith, subst}
use Rattle.wf_model.specs.Task.{first_block, inputs}
use Rattle.wf_model.specs.Execution.{executions}
use Rattle.wf_model.specs.Points.{points}
use Rattle.wf_complex.specs.Layout.{execution_total}
use Rattle.wf_complex.proofs.Lemmas.{length-executions}
use Rattle.wf_report_trim.specs.Stretches.{stretches}
use Rattle.wf_report_trim.proofs.LiftedValues.{LiftedTo, goes_on_in, lifted_more, lifted_there}
use Rattle.wf_report_trim.proofs.values.lift_values.Goals as goal

pub stretches_of-requires-clause-before : goal.stretches_of-requires-clause-before
stretches_of-requires-clause-before c =
    let t = c.args.task.now in
    let r = c.args.before.now.rounds in
    let ins : c.simplices-inputs.result.now ≡ inputs t = c.simplices-inputs.ensures.simplices ∙ c.inputs.ensures.inputs in
    let e : execution_total c.first_block.result c.rounds-3.result c.simplices-inputs.result.now ≡ length (executions t r) =
    (λ i. execution_total (c.first_block.ensures.first_block i) (c.rounds-3.ensures i) (ins i)) ∙ sym (length-executions t r) in
    omega (arith, e, c.requires.before.1)

pub stretches_of-requires-clause-after : goal.stretches_of-requires-clause-after
stretches_of-requires-clause-after c =
    let t = c.args.task.now in
    let r = c.args.after.now.rounds in
    let ins : c.simplices-inputs.result.now ≡ inputs t = c.simplices-inputs.ensures.simplices ∙ c.inputs.ensures.inputs in
    let all : c.rounds-3.result + (c.rounds.result - c.rounds-2.result) ≡ r = omega (arith, c.rounds.ensures, c.rounds-2.ensures, c.rounds-3.ensures, c.requires.rounds) in
    let e : execution_total c.first_block.result (c.rounds-3.result + (c.rounds.result - c.rounds-2.result)) c.simplices-inputs.result.now ≡ length (executions t r) =
    (λ i. execution_total (c.first_block.ensures.first_block i) (all i) (ins i)) ∙ sym (length-executions t r) in
    omega (arith, e, c.requires.after.1)

pub value_at-requires-clause-point : goal.value_at-requires-clause-point
value_at-requires-clause-point c =
    let t = c.args.task.now in
    let r = c.args.before.now.rounds in
    let k = c.rounds.result - c.rounds-2.result in
    let is : c.args.after.now.rounds ≡ r + k = omega (arith, c.rounds.ensures, c.rounds-2.ensures, c.requires.rounds) in
    let ins : c.simplices-inputs.result.now ≡ inputs t = c.simplices-inputs.ensures.simplices ∙ c.inputs.ensures.inputs in
    let are : c.deref.result.now ≡ stretches (first_block t) r k 0 0 (inputs t) =
    c.deref.ensures.value ∙ c.in_ok-stretches.ensures ∙ (λ i. stretches (c.first_block.ensures.first_block i) (c.rounds-3.ensures i) k 0 0 (ins i)) in
    goes_on_in t r k c.args.after.now.rounds c.args.before.now c.args.after.now c.deref.result.now c.requires.before.2 c.requires.before.1 c.requires.after.2 is are c.loop-point.point
    (omega (arith, c.points-point-end.ensures.points))

pub loop-point-preserved : goal.loop-point-preserved
loop-point-preserved c =
    let t = c.args.task.now in
    let r = c.args.before.now.rounds in
    let k = c.rounds.result - c.rounds-2.result in
    let is : c.args.after.now.rounds ≡ r + k = omega (arith, c.rounds.ensures, c.rounds-2.ensures, c.requires.rounds) in
    let ins : c.simplices-inputs.result.now ≡ inputs t = c.simplices-inputs.ensures.simplices ∙ c.inputs.ensures.inputs in
    let are : c.deref.result.now ≡ stretches (first_block t) r k 0 0 (inputs t) =
    c.deref.ensures.value ∙ c.in_ok-stretches.ensures ∙ (λ i. stretches (c.first_block.ensures.first_block i) (c.rounds-3.ensures i) k 0 0 (ins i)) in
    let low : c.loop-point.point < length c.args.after.now.points = omega (arith, c.points-point-end.ensures.points) in
    let low_there : c.loop-point.point < length (points t (r + k)) = subst (λ ps. c.loop-point.point < length ps) (c.requires.after.2.points_are ∙ ap (points t) is) low in
    subst (LiftedTo t r k (c.loop-point.point + 1) c.args.values.now) (sym c.in_ok-push.ensures.items)
    (lifted_more t r k c.loop-point.point c.args.values.now c.loop-point.lifted.items c.value_at.result low_there c.loop-point.invariant
    (lifted_there t r k c.args.after.now.rounds c.args.before.now c.args.after.now c.deref.result.now c.requires.before.2 c.requires.before.1 c.requires.after.2 is are c.loop-point.point low c.args.values.now c.value_at.result c.value_at.ensures))
