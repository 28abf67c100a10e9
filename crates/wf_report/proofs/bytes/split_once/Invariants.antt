use Rattle.std.proofs.Common.{◌≡◌, true, take}
use Rattle.wf_report.specs.Reading.{lacks}
use Rattle.wf_report.proofs.bytes.split_once.Given as goal

abbrev pub invariant-loop-place : goal.invariant-loop-place
invariant-loop-place l = lacks l.byte (take l.place l.text) ≡ true
