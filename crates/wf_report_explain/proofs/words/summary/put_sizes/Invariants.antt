use Rattle.std.proofs.Common.{◌≡◌, ◌++◌, string_bytes, drop, codes}
use Rattle.wf_report_explain.specs.Words.Summary.{size_text}
use Rattle.wf_report_explain.proofs.OfWords.ListsInWords.{rest_of}
use Rattle.wf_report_explain.proofs.words.summary.put_sizes.Given as goal

abbrev pub invariant-loop-place : goal.invariant-loop-place
invariant-loop-place l = string_bytes l.text ++ rest_of size_text (codes ", ") (codes ", ") l.place (drop l.place l.sizes) ≡ string_bytes l.initial.text ++ rest_of size_text (codes ", ") (codes ", ") 0 l.sizes
