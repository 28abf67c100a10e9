use Rattle.std.proofs.Common.{◌≡◌, ◌++◌, string_bytes}
use Rattle.wf_report_explain.specs.Words.Text.{participant_text}
use Rattle.wf_report_explain.proofs.OfWords.ExecutionPlaces.{blocks_text}
use Rattle.wf_report_explain.proofs.words.executions.put_word.Given as goal

abbrev pub invariant-loop-block : goal.invariant-loop-block
invariant-loop-block l = string_bytes l.text ≡ string_bytes l.initial.text ++ blocks_text (participant_text l.ranks l.with_inputs) l.all l.word l.block
