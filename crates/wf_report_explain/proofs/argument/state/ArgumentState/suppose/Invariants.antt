use Rattle.std.proofs.Common.{◌≡◌, length, map}
use Rattle.wf_base.specs.Set.Sets.{values_in}
use Rattle.wf_report_explain.specs.Argument.ArgumentState.{in_this_case}
use Rattle.wf_report_explain.specs.Argument.Trail.{losing, state_of}
use Rattle.wf_report_explain.proofs.argument.state.ArgumentState.suppose.Given as goal

abbrev pub invariant-lost : goal.invariant-lost
invariant-lost l = record {
  state : losing (state_of l.self) l.point (map in_this_case (values_in l.left)) ≡ losing (state_of l.initial.self) l.point (map in_this_case (values_in l.initial.left));
  number : l.self.number ≡ l.initial.self.number;
  values : l.self.values ≡ l.initial.self.values;
}

abbrev pub decreases-lost : goal.decreases-lost
decreases-lost l = length (values_in l.left)
