use Rattle.wf_run.specs.Run.{answered}
use Rattle.wf_run_branches.specs.Verifying.{ReadsPart}
use Rattle.wf_run_branches.proofs.BranchProofs.{found_in, missing_in}
use Rattle.wf_run_branches.proofs.verifying.VerifyPartComplexAnswer.read_about.Goals as goal

pub returns-in_err-branch : goal.returns-in_err-branch
returns-in_err-branch g c =
    missing_in ReadsPart c.args.self.now.number c.args.subject.now.task.now c.args.subject.now.protocol.now.rounds c.args.source.now c.in_err-branch.field-0.0 c.from_residual.result c.in_err-branch.ensures.refused c.from_residual.ensures

pub returns : goal.returns
returns g c =
    let found = c.in_ok-branch.ensures.found in
    found_in ReadsPart c.args.self.now.number c.args.subject.now.task.now c.args.subject.now.protocol.now.rounds c.args.source.now c.in_ok-branch.branch.number c.verify_part.new.source (answered c.verify_part.result) found.number found.there c.verify_part.ensures
