use Rattle.std.proofs.Common.{[], All, flat_map, take}
use Rattle.wf_model.specs.Task.{IsTaskSimplex}
use Rattle.wf_simplex.specs.Adding.{AreAdded, IsAmong, faces_in_turn}
use Rattle.wf_simplex.proofs.complex.Complex.from_facets.Given as goal

abbrev pub invariant-loop-facet : goal.invariant-loop-facet
invariant-loop-facet l = record {
  faces : AreAdded [] (flat_map faces_in_turn (take l.facet-index l.facets)) l.simplices.items;
  within : All IsTaskSimplex (take l.facet-index l.facets);
  among : All (IsAmong l.simplices.items) l.recent;
}
