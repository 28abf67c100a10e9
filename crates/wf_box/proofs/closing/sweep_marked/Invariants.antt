use Rattle.std.proofs.Common.{◌≡◌, ◌≤◌, ◌-◌, None, length, drop}
use Rattle.wf_model.specs.Closing.{and_then, sweep_from}
use Rattle.wf_network.specs.Problems.{constraints_in, executions_in}
use Rattle.wf_box.specs.Steps.{NamesAll, reached}
use Rattle.wf_box.specs.Working.{AreMarked, ProceedsOn}
use Rattle.wf_box.proofs.closing.sweep_marked.Given as goal

abbrev pub decreases-marked : goal.decreases-marked
decreases-marked l = length (executions_in l.network) - l.next

abbrev pub invariant-marked : goal.invariant-marked
invariant-marked l = NamesAll l.network l.initial.lines l.initial.workspace l.lines l.workspace
    × (and_then (reached l.lines.items None l.workspace.tracked.words.items) (sweep_from l.next (drop l.next (constraints_in l.network)))
    ≡ and_then (reached l.initial.lines.items None l.initial.workspace.tracked.words.items) (sweep_from 0 (constraints_in l.network)))
    × ProceedsOn l.network l.initial.lines l.initial.workspace l.lines l.workspace None
    × AreMarked (constraints_in l.network) l.workspace
    × (l.next ≤ length (executions_in l.network))
