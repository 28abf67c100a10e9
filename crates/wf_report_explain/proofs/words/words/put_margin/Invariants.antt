use Rattle.std.proofs.Common.{◌≡◌, ◌++◌, ◌-◌, string_bytes}
use Rattle.wf_report_explain.specs.Words.Text.{margin}
use Rattle.wf_report_explain.proofs.words.words.put_margin.Given as goal

abbrev pub invariant-loop-level : goal.invariant-loop-level
invariant-loop-level l = string_bytes l.text ++ margin (l.depth - l._level) ≡ string_bytes l.initial.text ++ margin l.depth
