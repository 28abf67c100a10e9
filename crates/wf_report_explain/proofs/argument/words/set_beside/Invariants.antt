use Rattle.std.proofs.Common.{◌≡◌, ◌∷◌, ◌++◌, drop}
use Rattle.wf_report_explain.specs.Argument.Text.{values_beside}
use Rattle.wf_report_explain.proofs.argument.words.set_beside.Given as goal

abbrev pub invariant-loop-reason : goal.invariant-loop-reason
invariant-loop-reason l = l.values.items ++ values_beside l.first (drop l.reason-index l.reasons) ≡ l.first.loss.value ∷ values_beside l.first l.reasons
