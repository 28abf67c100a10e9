use Rattle.std.proofs.Common.{drop, false}
use Rattle.wf_base.proofs.OfStreams.Lemmas.{IsPut}
use Rattle.wf_report_explain.specs.Words.Text.{block_text, participant_text}
use Rattle.wf_report_explain.proofs.OfWords.Pieces.{block_left}
use Rattle.wf_report_explain.proofs.words.listed.put_block.Given as goal

abbrev pub invariant-loop-place : goal.invariant-loop-place
invariant-loop-place g l = IsPut l.fn.sink l.fn.page l.sink l.page (block_text (participant_text false false) l.members) (block_left l.place (drop l.place l.members))
