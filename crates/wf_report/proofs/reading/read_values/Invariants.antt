use Rattle.std.proofs.Common.{◌≡◌, ◌≤◌, ◌+◌, length}
use Rattle.wf_model.specs.Report.{lines_of}
use Rattle.wf_report.proofs.BodyLemmas.{front, fronted}
use Rattle.wf_report.proofs.reading.read_values.Given as goal

abbrev pub invariant-lines : goal.invariant-lines
invariant-lines l =
    (fronted l.values.items (front (lines_of l.rest)) ≡ front (lines_of l.text))
    × (length l.values.items + length l.rest ≤ length l.text)

abbrev pub decreases-lines : goal.decreases-lines
decreases-lines l = length l.rest
