use Rattle.std.proofs.Common.{◌≡◌, ◌++◌, string_bytes, drop, codes, false}
use Rattle.wf_model.specs.PointsText.{process_text}
use Rattle.wf_report_explain.proofs.OfWords.ListsInWords.{rest_of}
use Rattle.wf_report_explain.proofs.words.summary.put_processes.Given as goal

abbrev pub invariant-loop-place : goal.invariant-loop-place
invariant-loop-place l =
    string_bytes l.text ++ rest_of (process_text false) (codes ", ") (codes " and ") l.place (drop l.place l.processes) ≡ string_bytes l.initial.text ++ rest_of (process_text false) (codes ", ") (codes " and ") 0 l.processes
