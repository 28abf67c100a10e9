use Rattle.std.proofs.Common.{◌≡◌, ◌<◌, ◌||◌, ℕ, false, drop, get_or, length}
use Rattle.wf_model.specs.Lists.{has}
use Rattle.wf_report_explain.proofs.argument.used.mark_each.Given as goal

abbrev pub invariant-loop-number : goal.invariant-loop-number
invariant-loop-number l = record {
  long : length l.marks.items ≡ length l.initial.marks.items;
  each : (k : ℕ) → k < length l.initial.marks.items → (get_or l.marks.items k false || has (drop l.number-index l.numbers) k) ≡ (get_or l.initial.marks.items k false || has l.numbers k);
}
