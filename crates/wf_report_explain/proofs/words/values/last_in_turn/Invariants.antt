use Rattle.std.proofs.Common.{◌≡◌, ◌≤◌, ◌+◌, drop, get_or}
use Rattle.wf_report_explain.specs.Words.Text.{following}
use Rattle.wf_report_explain.proofs.words.values.last_in_turn.Given as goal

abbrev pub invariant-loop-place : goal.invariant-loop-place
invariant-loop-place l = record {
  small : l.last ≤ 255;
  last : l.last + following l.last (drop l.place l.values) ≡ get_or l.values 0 0 + following (get_or l.values 0 0) (drop 1 l.values);
}
