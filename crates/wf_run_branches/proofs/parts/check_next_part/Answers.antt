use Rattle.wf_run_branches.proofs.JoinSteps.{taken, untaken}
use Rattle.wf_run_branches.proofs.parts.check_next_part.Goals as goal

pub returns-in-Ok : goal.returns-in-Ok
returns-in-Ok g c =
    taken c.args.number c.args.judge.now.task.now c.args.judge.now.protocol.now.rounds c.args.text.now c.body_in.result c.in-Ok.body c.in-Ok.is c.body_in.ensures

pub returns-in-Err : goal.returns-in-Err
returns-in-Err g c =
    untaken c.args.number c.args.judge.now.task.now c.args.judge.now.protocol.now.rounds c.args.text.now c.body_in.result c.in-Err.fault c.fault_in_part.result c.in-Err.is c.fault_in_part.ensures c.body_in.ensures
