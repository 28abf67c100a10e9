use Rattle.wf_report_check.proofs.RowBlockLemmas.{AreLeft}
use Rattle.wf_report_check.proofs.row_block.has_support.Given as goal

abbrev pub invariant-loop-at : goal.invariant-loop-at
invariant-loop-at l = AreLeft l.words l.sets l.place l.value l.at l.alive
