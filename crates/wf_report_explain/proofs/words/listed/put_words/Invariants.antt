use Rattle.wf_report_explain.specs.Words.Table.{text_of}
use Rattle.wf_report_explain.specs.Words.Text.{plain_names}
use Rattle.wf_report_explain.proofs.OfWords.Pieces.{IsPutSoFar}
use Rattle.wf_report_explain.proofs.words.listed.put_words.Given as goal

abbrev pub invariant-loop-round : goal.invariant-loop-round
invariant-loop-round g l =
    IsPutSoFar l.initial.sink l.sink l.initial.page l.page (text_of plain_names l.found) l.found.simplex l.found.words.now l.found.rounds l.round l.count l.place
