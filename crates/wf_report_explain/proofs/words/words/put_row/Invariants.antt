use Rattle.std.proofs.Common.{◌≡◌, ◌++◌, string_bytes, drop}
use Rattle.std.specs.Prelude.{codes}
use Rattle.wf_report_explain.specs.Words.Text.{number_text}
use Rattle.wf_report_explain.proofs.OfWords.ListsInWords.{rest_of}
use Rattle.wf_report_explain.proofs.words.words.put_row.Given as goal

abbrev pub invariant-loop-place : goal.invariant-loop-place
invariant-loop-place l =
    string_bytes l.text ++ rest_of (number_text) (codes ", ") (codes ", ") l.place (drop l.place l.values) ≡ string_bytes l.initial.text ++ rest_of (number_text) (codes ", ") (codes ", ") 0 l.values
