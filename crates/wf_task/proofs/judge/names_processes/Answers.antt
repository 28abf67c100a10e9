use Rattle.wf_simplex.proofs.Lemmas.{ascent_below}
use Rattle.wf_task.proofs.judge.names_processes.Goals as goal

pub loop-process-init : goal.loop-process-init
loop-process-init c = ascent_below c.args.processes c.args.pairs.now
