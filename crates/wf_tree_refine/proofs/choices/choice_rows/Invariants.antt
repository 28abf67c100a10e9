use Rattle.std.proofs.Common.{◌≡◌, ◌≤◌, flat_map, length, take}
use Rattle.wf_model.specs.Simplex.{processes_of}
use Rattle.wf_tree_model.specs.Tuples.{choices_of}
use Rattle.wf_tree_refine.specs.Choices.{chosen_by}
use Rattle.wf_tree_refine.proofs.choices.choice_rows.Given as goal

abbrev pub invariant-rows : goal.invariant-rows
invariant-rows l = record {
  within : length l.found.items ≤ l.most;
  made : l.found.items ≡ flat_map (choices_of (chosen_by l.sets) (processes_of l.simplex)) (take l.row-index l.rows);
}
