use Rattle.std.proofs.Common.{All, ◌≡◌, ◌+◌, ◌^◌, ◌≤◌, ◌++◌, vec_len, vec_capacity}
use Rattle.wf_simplex.specs.Adding.{faces_in_turn}
use Rattle.wf_simplex.proofs.FacesInOrder.{vertices_below}
use Rattle.wf_simplex.proofs.BoundedFaces.{Climbs}
use Rattle.wf_simplex.proofs.simplex.Simplex.add_faces.Given as goal

abbrev pub invariant-loop-process : goal.invariant-loop-process
invariant-loop-process l = record {
  added : l.faces.items ≡ l.fn.faces.items ++ faces_in_turn (vertices_below l.process l.self);
  climbing : All (Climbs l.process 255 0) (faces_in_turn (vertices_below l.process l.self));
  from : l.start ≤ vec_len l.faces;
  count : vec_len l.faces + 1 ≤ l.start + 2 ^ l.process;
  room : l.start + 15 ≤ vec_capacity l.faces;
}
