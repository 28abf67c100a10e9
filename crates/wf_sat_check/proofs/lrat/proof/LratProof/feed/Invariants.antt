use Rattle.std.proofs.Common.{◌≡◌, ◌-◌, ◌≤◌, false, drop, length}
use Rattle.wf_sat_text.specs.Lrat.Text.{text_of}
use Rattle.wf_sat_check.specs.Lrat.Fed.{outcome_of}
use Rattle.wf_sat_check.specs.Lrat.Models.{KeepsSatisfiable}
use Rattle.wf_sat_check.proofs.lrat.proof.LratProof.feed.Given as goal

abbrev pub invariant-bytes : goal.invariant-bytes
invariant-bytes l = record {
  kept : KeepsSatisfiable l.initial.checker l.checker;
  same : outcome_of (text_of l.initial.self l.piece) l.initial.checker ≡ outcome_of (text_of l.self (drop l.at l.piece)) l.checker;
  unrefuted : l.checker.is_refuted ≡ false;
  within : l.at ≤ length l.piece;
}

abbrev pub decreases-bytes : goal.decreases-bytes
decreases-bytes l = length l.piece - l.at
