use Rattle.std.proofs.Common.{◌≡◌, ◌≤◌, ◌++◌, ◌-◌, string_bytes, drop, length, None}
use Rattle.wf_report_explain.specs.Argument.Text.{reasons_from}
use Rattle.wf_report_explain.proofs.argument.words.put_reasons.Given as goal

abbrev pub invariant-reasons : goal.invariant-reasons
invariant-reasons l = record {
  text : string_bytes l.text ++ reasons_from l.before 0 (drop l.told l.reasons) ≡ string_bytes l.initial.text ++ reasons_from None 0 l.reasons;
  within : l.told ≤ length l.reasons;
}

abbrev pub decreases-reasons : goal.decreases-reasons
decreases-reasons l = length l.reasons - l.told
