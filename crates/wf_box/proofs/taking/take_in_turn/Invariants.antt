use Rattle.std.proofs.Common.{◌≡◌, ◌≤◌, [], get_or, None, Some, length, map}
use Rattle.wf_model.specs.Problem.{Problem, constraint_at}
use Rattle.wf_model.specs.Closing.{and_then}
use Rattle.wf_complex.specs.Protocol.{point_in}
use Rattle.wf_base.specs.Set.Sets.{box_of, values_in}
use Rattle.wf_box.specs.Steps.{HasRoom, IsNamed, IsSpent, loss, reached, take_present}
use Rattle.std.specs.List.{slice_set}
use Rattle.wf_model.specs.Box.{count}
use Rattle.wf_box.proofs.taking.take_in_turn.Given as goal

abbrev pub decreases-values : goal.decreases-values
decreases-values l = length (values_in l.left)

abbrev pub invariant-values : goal.invariant-values
invariant-values l = (length l.sets ≡ length l.initial.sets) × HasRoom l.lines l.sets × IsSpent l.initial.lines l.initial.sets l.lines l.sets
    × ((p : Problem) → point_in l.at.process (constraint_at p l.at.execution).scope ≡ Some l.at.point → IsNamed p l.initial.lines.items l.initial.sets l.lines.items l.sets)
    × (and_then (reached l.lines.items None l.sets) (take_present l.at.execution (map (loss l.at.process l.at.point) (values_in l.left)))
    ≡ and_then (reached l.initial.lines.items None l.initial.sets) (take_present l.at.execution (map (loss l.at.process l.at.point) (values_in l.initial.left))))
    × (l.sets ≡ slice_set l.initial.sets l.at.point (get_or l.sets l.at.point []))
    × (count (box_of l.sets) ≤ count (box_of l.initial.sets))
    × (count (box_of l.sets) ≡ count (box_of l.initial.sets) → l.sets ≡ l.initial.sets)
