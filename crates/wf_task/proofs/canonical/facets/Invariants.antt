use Rattle.std.proofs.Common.{◌≡◌, not, filter, take}
use Rattle.wf_task.specs.Canonical.{is_inner}
use Rattle.wf_task.proofs.canonical.facets.Given as goal

abbrev pub invariant-loop-simplex : goal.invariant-loop-simplex
invariant-loop-simplex l = l.found.items ≡ filter (λ s. not (is_inner l.simplices s)) (take l.simplex-index l.simplices)
