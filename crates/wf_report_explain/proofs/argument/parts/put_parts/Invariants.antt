use Rattle.std.proofs.Common.{◌≡◌, ◌≤◌, ◌++◌, ◌+◌, ◌-◌, length, string_bytes, Some}
use Rattle.wf_report_explain.specs.Words.Subject.{problem_in}
use Rattle.wf_report_explain.specs.Argument.Subject.{steps_to_come, to_come}
use Rattle.wf_report_explain.specs.Argument.Trail.{values_of}
use Rattle.wf_report_explain.proofs.argument.parts.put_parts.Given as goal

abbrev pub invariant-parts : goal.invariant-parts
invariant-parts l = record {
  text : string_bytes l.text ++ to_come l.subject l.lines l.state (Some l.told) ≡ string_bytes l.initial.text ++ to_come l.subject l.lines l.initial.state (Some 0);
  steps : l.state.number + steps_to_come l.subject l.lines l.state (Some l.told) ≡ l.initial.state.number + steps_to_come l.subject l.lines l.initial.state (Some 0);
  number : l.state.number ≤ l.told + 1;
  within : l.told ≤ length l.lines;
  values : values_of l.state ≡ (problem_in l.subject).values;
}

abbrev pub decreases-parts : goal.decreases-parts
decreases-parts l = length l.lines - l.told
