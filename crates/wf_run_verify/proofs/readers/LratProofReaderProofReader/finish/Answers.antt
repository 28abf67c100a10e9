use Rattle.wf_run.specs.Faults.{of_hints}
use Rattle.wf_run_verify.proofs.HintBytes.{end_accepted, end_refused}
use Rattle.wf_run_verify.proofs.ProofsToLines.{of_refusal}
use Rattle.wf_run_verify.proofs.readers.LratProofReaderProofReader.finish.Goals as goal

pub returns-in_err-finish-clause-refused : goal.returns-in_err-finish-clause-refused
returns-in_err-finish-clause-refused c =
    let now = c.args.self in
    let e = c.in_err-finish.field-0.0 in
    of_refusal _ (of_hints e) c.from_residual.result c.from_residual.ensures
    (λ begun given left read end. end_refused begun.checker given now.proof now.checker read left end c.finish.new.checker e c.in_err-finish.ensures.refused)

pub returns-clause-accepted : goal.returns-clause-accepted
returns-clause-accepted c begun given read =
    end_accepted begun.checker given c.args.self.proof c.args.self.checker read c.finish.new.checker c.in_ok-finish.ensures.sound c.in_ok-finish.ensures.accepted
