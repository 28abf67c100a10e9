use Rattle.std.proofs.Common.{◌≡◌, ◌≤◌, ◌++◌, ◌+◌, ◌-◌, drop, length, string_bytes}
use Rattle.wf_report_explain.specs.Argument.Subject.{state_after, taking_left}
use Rattle.wf_report_explain.proofs.argument.steps.put_steps.Given as goal

abbrev pub invariant-steps : goal.invariant-steps
invariant-steps l = record {
  text : string_bytes l.text ++ taking_left l.subject l.taking.seat l.state (drop l.told l.taking.values.now) ≡ string_bytes l.initial.text ++ taking_left l.subject l.taking.seat l.initial.state l.taking.values.now;
  state : state_after l.subject l.taking.seat l.state (drop l.told l.taking.values.now) ≡ state_after l.subject l.taking.seat l.initial.state l.taking.values.now;
  number : l.state.number ≤ l.initial.state.number + l.told;
  within : l.told ≤ length l.taking.values.now;
  values : l.state.values ≡ l.initial.state.values;
}

abbrev pub decreases-steps : goal.decreases-steps
decreases-steps l = length l.taking.values.now - l.told
