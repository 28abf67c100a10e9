use Rattle.std.proofs.Common.{◌≡◌, ◌≤◌, ◌+◌, drop}
use Rattle.std.specs.List.{count_by}
use Rattle.wf_report_explain.proofs.argument.used.count.Given as goal

abbrev pub invariant-loop-is_marked : goal.invariant-loop-is_marked
invariant-loop-is_marked l = record {
  counted : l.count + count_by (λ is_marked. is_marked) (drop l.is_marked-index l.marks) ≡ count_by (λ is_marked. is_marked) l.marks;
  few : l.count ≤ l.is_marked-index;
}
