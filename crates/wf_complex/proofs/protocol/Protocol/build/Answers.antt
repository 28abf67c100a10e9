use Rattle.std.proofs.Common.{◌≡◌, ◌≤◌, ℕ, Result, Ok, Err, length, sym, ◌∙◌, arith}
use Rattle.std.specs.Result.{IsErrAnd}
use Rattle.wf_model.specs.Task.{Task}
use Rattle.wf_model.specs.Execution.{executions}
use Rattle.wf_complex.specs.declared.fault.BuildFault.{BuildFault}
use Rattle.wf_complex.specs.declared.fault.BuildFault.TheVariants.{Rounds, TooManyExecutions, OutOfMemory}
use Rattle.wf_complex.specs.Layout.{execution_total}
use Rattle.wf_complex.specs.Protocol.{Built, Builds}
use Rattle.wf_complex.proofs.Executions.{length-executions}
use Rattle.wf_complex.proofs.protocol.Protocol.build.Goals as goal

pub returns-then-execution_count-gt-MAX_EXECUTIONS : goal.returns-then-execution_count-gt-MAX_EXECUTIONS
returns-then-execution_count-gt-MAX_EXECUTIONS c =
    let t = c.args.task.now in
    let long = length-executions t c.args.rounds ∙ sym (λ i. execution_total (c.first_block-first_block.ensures.first_block i) c.args.rounds ((c.simplices-inputs.ensures.simplices ∙ c.inputs.ensures.inputs) i)) in
    (omega arith, omega (arith, long, c.execution_count.ensures.count))

-- where memory ran out, within the limits
refused : (t : Task) (r : ℕ) (result : Result Built BuildFault) → r ≤ 8 → length (executions t r) ≤ 500000 → IsErrAnd result (λ e. e ≡ OutOfMemory) → Builds t r result
refused t r (Ok b) low few h = absurd h
refused t r (Err Rounds) low few h = absurd (let none : ⊥ = cc in none)
refused t r (Err TooManyExecutions) low few h = absurd (let none : ⊥ = cc in none)
refused t r (Err OutOfMemory) low few h = (low, few)

pub returns-in_err-complex_from : goal.returns-in_err-complex_from
returns-in_err-complex_from c =
    let t = c.args.task.now in
    let long = length-executions t c.args.rounds ∙ sym (λ i. execution_total (c.first_block-first_block.ensures.first_block i) c.args.rounds ((c.simplices-inputs.ensures.simplices ∙ c.inputs.ensures.inputs) i)) in
    refused t c.args.rounds c.from_residual.result (omega arith) (omega (arith, long, c.execution_count.ensures.count)) c.from_residual.ensures.1

pub returns : goal.returns
returns c =
    let t = c.args.task.now in
    let long = length-executions t c.args.rounds ∙ sym (λ i. execution_total (c.first_block-first_block.ensures.first_block i) c.args.rounds ((c.simplices-inputs.ensures.simplices ∙ c.inputs.ensures.inputs) i)) in (
      omega arith,
      omega (arith, long, c.execution_count.ensures.count),
      c.in_ok-complex_from.ensures t c.inputs.ensures.task (sym (c.simplices-inputs.ensures.simplices ∙ c.inputs.ensures.inputs)) (sym c.symmetric.ensures) (sym c.first_block-first_block.ensures.first_block),
    )
