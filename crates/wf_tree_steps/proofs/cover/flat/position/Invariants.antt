use Rattle.std.proofs.Common.{◌≡◌, ◌+◌, drop}
use Rattle.wf_tree_model.specs.Trees.{position}
use Rattle.wf_tree_steps.proofs.cover.flat.position.Given as goal

abbrev pub invariant-places : goal.invariant-places
invariant-places l = l.place + position l.sheet (drop l.place l.sheets) ≡ position l.sheet l.sheets
