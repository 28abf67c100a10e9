use Rattle.std.proofs.Common.{subst, Ok}
use Rattle.wf_run.specs.Run.{answered}
use Rattle.wf_run_branches.specs.Verifying.{JudgesPart}
use Rattle.wf_run_branches.proofs.verifying.verify_part.Goals as goal

pub returns : goal.returns
returns g c =
    let judged = subst (λ text. JudgesPart c.args.branch.number c.args.judge.now.task.now c.args.judge.now.protocol.now.rounds text (answered c.check_part_text.result)) c.deref.ensures.value c.check_part_text.ensures in
    (Ok c.in_ok-text.text.items, c.in_ok-text.ensures, judged)
