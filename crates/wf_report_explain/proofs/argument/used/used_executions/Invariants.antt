use Rattle.std.proofs.Common.{◌≡◌, ◌<◌, ◌||◌, ℕ, false, drop, get_or, length, map}
use Rattle.std.specs.List.{list_any}
use Rattle.wf_base.specs.Lines.Lines.{line_of}
use Rattle.wf_report_explain.specs.Argument.Text.{is_in}
use Rattle.wf_report_explain.proofs.argument.used.used_executions.Given as goal

abbrev pub invariant-loop-line : goal.invariant-loop-line
invariant-loop-line l = record {
  long : length l.marks.items ≡ length l.protocol.scopes;
  each : (k : ℕ) → k < length l.protocol.scopes → (get_or l.marks.items k false || list_any (is_in k) (map line_of (drop l.line-index l.lines))) ≡ list_any (is_in k) (map line_of l.lines);
}
