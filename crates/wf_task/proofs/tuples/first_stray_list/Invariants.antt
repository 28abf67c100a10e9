use Rattle.std.proofs.Common.{◌≡◌, map, drop, zip, not}
use Rattle.std.specs.List.{position_from}
use Rattle.wf_model.specs.Simplex.{processes_of}
use Rattle.wf_task.specs.Judge.{is_among}
use Rattle.wf_task.proofs.tuples.first_stray_list.Given as goal

abbrev pub invariant-loop-place : goal.invariant-loop-place
invariant-loop-place l =
    position_from (λ tuple. not (is_among l.outputs (zip (processes_of l.simplex) tuple))) l.place (map (λ t. t.items) (drop l.place l.lists))
    ≡ position_from (λ tuple. not (is_among l.outputs (zip (processes_of l.simplex) tuple))) 0 (map (λ t. t.items) l.lists)
