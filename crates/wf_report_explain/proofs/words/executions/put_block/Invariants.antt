use Rattle.std.proofs.Common.{◌≡◌, ◌++◌, string_bytes, drop, codes}
use Rattle.wf_report_explain.specs.Words.Text.{participant_text}
use Rattle.wf_report_explain.proofs.OfWords.ListsInWords.{rest_of}
use Rattle.wf_report_explain.proofs.words.executions.put_block.Given as goal

abbrev pub invariant-loop-place : goal.invariant-loop-place
invariant-loop-place l =
    let name = participant_text l.ranks l.with_inputs in
    string_bytes l.text ++ rest_of name (codes " ") (codes " ") l.place (drop l.place l.members) ≡ string_bytes l.initial.text ++ rest_of name (codes " ") (codes " ") 0 l.members
