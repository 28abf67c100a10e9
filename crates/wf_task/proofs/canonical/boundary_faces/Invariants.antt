use Rattle.std.proofs.Common.{◌≡◌, flat_map, take}
use Rattle.wf_task.specs.Borders.{borders_of}
use Rattle.wf_task.proofs.canonical.boundary_faces.Given as goal

abbrev pub invariant-loop-simplex : goal.invariant-loop-simplex
invariant-loop-simplex l = l.borders.items ≡ flat_map borders_of (take l.simplex-index l.simplices)
