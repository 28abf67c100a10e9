use Rattle.std.proofs.Common.{flat_map, length, false}
use Rattle.wf_base.proofs.OfStreams.Lemmas.{IsPut}
use Rattle.wf_report_explain.specs.Words.Text.{block_of, block_text, participant_text, word_text}
use Rattle.wf_report_explain.proofs.OfWords.Pieces.{numbers_left}
use Rattle.wf_report_explain.proofs.words.listed.put_word.Given as goal

abbrev pub invariant-loop-block : goal.invariant-loop-block
invariant-loop-block g l =
    IsPut l.initial.sink l.initial.page l.sink l.page (word_text (participant_text false false) l.all l.word)
    (flat_map (λ block. block_text (participant_text false false) (block_of l.all l.word block)) (numbers_left l.block (length l.all)))
