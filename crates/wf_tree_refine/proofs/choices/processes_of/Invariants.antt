use Rattle.std.proofs.Common.{◌≡◌, take}
use Rattle.wf_model.specs.Simplex.{processes_of}
use Rattle.wf_tree_refine.proofs.choices.processes_of.Given as goal

abbrev pub invariant-places : goal.invariant-places
invariant-places l = record {
  room : l.found.cap ≡ 4;
  made : l.found.items ≡ take l.place (processes_of l.simplex);
}
