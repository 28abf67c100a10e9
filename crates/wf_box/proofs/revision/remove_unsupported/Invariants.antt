use Rattle.std.proofs.Common.{◌≡◌, None, flat_map, drop}
use Rattle.wf_model.specs.Problem.{Problem, constraint_at}
use Rattle.wf_model.specs.Closing.{and_then, lost, lost_at, places, take_out_each}
use Rattle.wf_network.specs.Problems.{constraint_seen}
use Rattle.wf_base.specs.Set.Sets.{box_of}
use Rattle.wf_box.specs.Steps.{NamesLost, reached, take_present}
use Rattle.wf_box.specs.Working.{IsSilent, LeavesUntouched, ProceedsOn}
use Rattle.wf_box.proofs.revision.remove_unsupported.Given as goal

abbrev pub invariant-places : goal.invariant-places
invariant-places g l = ((p : Problem) → constraint_at p l.number ≡ constraint_seen l.network.rules.items l.execution → NamesLost p l.initial.lines l.initial.workspace l.lines l.workspace)
    × (and_then (reached l.lines.items None l.workspace.tracked.words.items) (take_present l.number (flat_map (lost_at (box_of l.initial.workspace.tracked.words.items) (constraint_seen l.network.rules.items l.execution)) (drop l.place (places (constraint_seen l.network.rules.items l.execution).scope))))
    ≡ and_then (reached l.initial.lines.items None l.initial.workspace.tracked.words.items) (λ box. take_out_each l.number (lost box (constraint_seen l.network.rules.items l.execution)) box))
    × ProceedsOn l.network l.initial.lines l.initial.workspace l.lines l.workspace None
    × LeavesUntouched l.network l.initial.workspace l.workspace
    × IsSilent l.number l.initial.workspace l.workspace
