use Rattle.std.proofs.Common.{◌++◌, string_bytes}
use Rattle.wf_report_explain.specs.Words.Text.{argument_names}
use Rattle.wf_report_explain.specs.Words.Table.{text_of}
use Rattle.wf_report_explain.proofs.OfWords.ExecutionPlaces.{AreTold}
use Rattle.wf_report_explain.proofs.words.executions.put_words.Given as goal

abbrev pub invariant-loop-round : goal.invariant-loop-round
invariant-loop-round l =
    AreTold (argument_names l.ranks l.found.simplex) l.found.words.now l.found.rounds l.round l.count l.place (string_bytes l.text) (string_bytes l.initial.text ++ text_of (argument_names l.ranks) l.found)
