use Rattle.std.proofs.Common.{take}
use Rattle.wf_core.specs.Core.{Run, start}
use Rattle.wf_core.proofs.machine.Core.run.Given as goal

abbrev pub invariant-loop-at : goal.invariant-loop-at
invariant-loop-at l = Run (start l.branches l.workers) (take l.at l.events) l.core
