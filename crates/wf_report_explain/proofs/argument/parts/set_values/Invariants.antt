use Rattle.std.proofs.Common.{◌≡◌, ◌∷◌, ◌++◌, drop, length, map}
use Rattle.wf_base.specs.Lines.Lines.{line_of}
use Rattle.wf_report_explain.specs.Argument.Subject.{after_same, same_values}
use Rattle.wf_report_explain.proofs.argument.parts.set_values.Given as goal

abbrev pub invariant-loop-place : goal.invariant-loop-place
invariant-loop-place l = record {
  listed : l.values.items ++ same_values l.execution l.process (map line_of (drop l.place l.lines)) ≡ l.first ∷ same_values l.execution l.process (map line_of (drop 1 l.lines));
  count : l.place ≡ length l.values.items;
  after : after_same l.execution l.process (map line_of (drop l.place l.lines)) ≡ after_same l.execution l.process (map line_of (drop 1 l.lines));
}
