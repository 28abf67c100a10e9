use Rattle.std.proofs.Common.{◌≡◌, drop}
use Rattle.std.specs.List.{list_any}
use Rattle.wf_model.specs.Simplex.{values_of}
use Rattle.wf_task.specs.Judge.{is_large}
use Rattle.wf_task.proofs.judge.has_value_above.Given as goal

abbrev pub invariant-loop-value : goal.invariant-loop-value
invariant-loop-value l = list_any (is_large l.largest) (values_of (drop l.value-index l.pairs)) ≡ list_any (is_large l.largest) (values_of l.pairs)
