use Rattle.std.proofs.Common.{◌≡◌, ◌++◌, map, take, drop}
use Rattle.wf_complex.specs.Renaming.{number_beside}
use Rattle.wf_complex.proofs.node.renumber.Given as goal

abbrev pub invariant-loop-place : goal.invariant-loop-place
invariant-loop-place l = l.ids ≡ map (number_beside l.old l.new) (take l.place l.fn.node.ids) ++ drop l.place l.fn.node.ids
