use Rattle.std.proofs.Common.{subst}
use Rattle.wf_run_branches.specs.Hints.{RefutesBranchByHints}
use Rattle.wf_run_branches.specs.Refuting.{RefutesBranch}
use Rattle.wf_cli_program.proofs.filed.TaskFileRun.check_proof.Goals as goal

pub returns-in-Some-true : goal.returns-in-Some-true
returns-in-Some-true g c =
    let run = c.run_over_both-in-Some-true in
    rw (c.in-Some-true.is-0, c.in-Some-true.is-1)
    (subst (λ number. RefutesBranchByHints c.args.asked.rounds number c.args.task.now run.new.task_source c.args.source.now run.new.source c.args.sink.now run.new.sink run.result)
    c.in_branch-none.ensures.number run.ensures)

pub returns-in-Some-false : goal.returns-in-Some-false
returns-in-Some-false g c =
    let run = c.run_over_both-in-Some-false in
    rw (c.in-Some-false.is-0, c.in-Some-false.is-1)
    (subst (λ number. RefutesBranch c.args.asked.rounds number c.args.task.now run.new.task_source c.args.source.now run.new.source c.args.sink.now run.new.sink run.result)
    c.in_branch-none-in-Some-false.ensures.number run.ensures)
