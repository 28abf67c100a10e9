use Rattle.std.specs.Prelude.{remove}
use Rattle.std.proofs.Common.{◌≡◌, ◌++◌, map}
use Rattle.wf_model.specs.Lists.{below}
use Rattle.wf_task.proofs.canonical.add_borders.Given as goal

abbrev pub invariant-loop-place : goal.invariant-loop-place
invariant-loop-place l = l.borders.items ≡ l.initial.borders.items ++ map (remove l.simplex) (below l.place)
