use Rattle.std.proofs.Common.{◌≡◌, ◌<◌, ◌||◌, ℕ, false, drop, get_or, length, map}
use Rattle.std.specs.List.{list_any}
use Rattle.wf_base.specs.Lines.Lines.{line_of}
use Rattle.wf_report_explain.specs.Argument.Used.{is_named}
use Rattle.wf_report_explain.proofs.argument.used.used_points.Given as goal

abbrev pub invariant-loop-line : goal.invariant-loop-line
invariant-loop-line l = record {
  long : length l.marks.items ≡ length l.protocol.points;
  each : (k : ℕ) → k < length l.protocol.points → (get_or l.marks.items k false || list_any (is_named l.protocol.scopes k) (map line_of (drop l.line-index l.lines))) ≡ list_any (is_named l.protocol.scopes k) (map line_of l.lines);
}
