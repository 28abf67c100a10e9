use Rattle.std.proofs.Common.{None, suc, ◌+◌, ◌≤◌}
use Rattle.wf_model.specs.Box.{count}
use Rattle.wf_model.specs.Closing.{and_then, sweeps}
use Rattle.wf_box.specs.Closes.{sweep_count}
use Rattle.wf_base.specs.Set.Sets.{box_of}
use Rattle.wf_box.specs.Steps.{NamesLost, reached}
use Rattle.wf_box.specs.Working.{AreMarked, ProceedsFor}
use Rattle.wf_box.proofs.SweepLemmas.{SweepsLeft}
use Rattle.wf_box.proofs.closing.sweeps.Given as goal

abbrev pub decreases-sweeping : goal.decreases-sweeping
decreases-sweeping l = count (box_of l.workspace.tracked.words.items)

abbrev pub invariant-sweeping : goal.invariant-sweeping
invariant-sweeping l = (1 ≤ l.sweeps) × (l.sweeps + count (box_of l.workspace.tracked.words.items) ≤ 1 + count (box_of l.initial.workspace.tracked.words.items))
    × NamesLost l.problem l.initial.lines l.initial.workspace l.lines l.workspace
    × SweepsLeft l.problem l.lines.items l.workspace.tracked.words.items (and_then (reached l.initial.lines.items None l.initial.workspace.tracked.words.items) (sweeps (suc (count (box_of l.initial.workspace.tracked.words.items))) l.problem)) l.sweeps (sweep_count (suc (count (box_of l.initial.workspace.tracked.words.items))) l.problem (box_of l.initial.workspace.tracked.words.items))
    × ProceedsFor l.problem l.initial.lines l.initial.workspace l.lines l.workspace None
    × AreMarked l.problem.constraints l.workspace
