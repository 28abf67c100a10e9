use Rattle.std.proofs.Common.{◌≡◌, ◌+◌, sum_by, take, length}
use Rattle.wf_task_presets.specs.Family.{tuples_for}
use Rattle.wf_task_presets.proofs.family.Family.has_more_tuples.Given as goal

abbrev pub invariant-loop-simplex : goal.invariant-loop-simplex
invariant-loop-simplex l = l.left + sum_by (λ s. length (tuples_for l.self s)) (take l.simplex-index l.inputs) ≡ l.most
