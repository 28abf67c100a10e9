use Rattle.std.proofs.Common.{◌≡◌, length}
use Rattle.wf_report_check.proofs.BuildLemmas.{AreAdded}
use Rattle.wf_report_check.proofs.row_block.add_row.Given as goal

abbrev pub invariant-loop-place : goal.invariant-loop-place
invariant-loop-place l = (length l.words ≡ length l.initial.words) × AreAdded l.row l.number l.initial.words l.words l.place
