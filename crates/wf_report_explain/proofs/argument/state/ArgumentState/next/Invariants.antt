use Rattle.std.proofs.Common.{◌≡◌, vec_len}
use Rattle.wf_report_explain.specs.Argument.Trail.{state_of}
use Rattle.wf_report_explain.proofs.argument.state.ArgumentState.next.Given as goal

abbrev pub invariant-back : goal.invariant-back
invariant-back l = record {
  later : (state_of l.self).later ≡ (state_of l.initial.self).later;
  number : l.self.number ≡ l.initial.self.number;
  values : l.self.values ≡ l.initial.self.values;
}

abbrev pub decreases-back : goal.decreases-back
decreases-back l = vec_len l.self.trail
