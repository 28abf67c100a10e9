use Rattle.std.proofs.Common.{◌≡◌, drop}
use Rattle.wf_task.specs.Judge.{names_processes}
use Rattle.wf_simplex.proofs.Lemmas.{ascends_below}
use Rattle.wf_task.proofs.judge.names_processes.Given as goal

abbrev pub invariant-loop-process : goal.invariant-loop-process
invariant-loop-process l = ascends_below l.processes l.least (drop l.process-index l.pairs) ≡ names_processes l.processes l.pairs
