use Rattle.std.proofs.Common.{◌≡◌, ◌++◌, string_bytes, drop, codes}
use Rattle.wf_report_explain.specs.Words.Text.{tuple_text}
use Rattle.wf_report_explain.proofs.OfWords.ListsInWords.{rest_of}
use Rattle.wf_report_explain.proofs.words.words.put_rows.Given as goal

abbrev pub invariant-loop-place : goal.invariant-loop-place
invariant-loop-place l = string_bytes l.text ++ rest_of tuple_text (codes ", ") (codes " or ") l.place (drop l.place l.rows) ≡ string_bytes l.initial.text ++ rest_of tuple_text (codes ", ") (codes " or ") 0 l.rows
