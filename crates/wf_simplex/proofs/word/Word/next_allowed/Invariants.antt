use Rattle.std.proofs.Common.{◌≡◌, ◌-◌}
use Rattle.wf_simplex.proofs.Allowed.{seek}
use Rattle.wf_simplex.proofs.word.Word.next_allowed.Given as goal

abbrev pub invariant-loop-index : goal.invariant-loop-index
invariant-loop-index l = record {
  same : l.self-inside ≡ l.initial.self-inside;
  sought : seek l.m l.size l.initial.index (l.index-end - l.initial.index) ≡ seek l.m l.size l.index (l.index-end - l.index);
}
