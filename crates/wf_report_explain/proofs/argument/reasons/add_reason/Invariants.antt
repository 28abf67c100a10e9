use Rattle.std.proofs.Common.{◌≡◌, ◌++◌, take, drop}
use Rattle.wf_model.specs.Lists.{with_element}
use Rattle.wf_report_explain.specs.Argument.ArgumentState.{reason_cmp}
use Rattle.wf_report_explain.proofs.argument.reasons.add_reason.Given as goal

abbrev pub invariant-loop-place : goal.invariant-loop-place
invariant-loop-place l = record {
  same : l.reasons.items ≡ l.initial.reasons.items;
  element : with_element reason_cmp l.reason l.reasons.items ≡ take l.place l.reasons.items ++ with_element reason_cmp l.reason (drop l.place l.reasons.items);
}
