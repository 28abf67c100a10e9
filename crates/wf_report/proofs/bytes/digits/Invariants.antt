use Rattle.std.proofs.Common.{◌≡◌, ◌≤◌, drop}
use Rattle.wf_report.specs.Numbers.{digits_upto}
use Rattle.wf_report.proofs.bytes.digits.Given as goal

abbrev pub invariant-loop-byte : goal.invariant-loop-byte
invariant-loop-byte l = (digits_upto l.most l.number (drop l.byte-index l.word) ≡ digits_upto l.most 0 l.word) × (l.number ≤ l.most)
