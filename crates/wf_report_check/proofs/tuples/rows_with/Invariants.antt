use Rattle.std.proofs.Common.{◌≡◌, take}
use Rattle.std.specs.Prelude.{filter}
use Rattle.wf_model.specs.Box.{has_at}
use Rattle.wf_report_check.proofs.tuples.rows_with.Given as goal

abbrev pub invariant-loop-tuple : goal.invariant-loop-tuple
invariant-loop-tuple l = l.rows.items ≡ filter (λ t. has_at t l.place l.value) (take l.tuple-index l.tuples)
