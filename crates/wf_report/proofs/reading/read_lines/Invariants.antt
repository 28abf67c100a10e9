use Rattle.std.proofs.Common.{◌≡◌, ◌≤◌, ◌+◌, length, map}
use Rattle.wf_model.specs.Report.{lines_of, steps_from}
use Rattle.wf_base.specs.Lines.Lines.{line_of}
use Rattle.wf_report.specs.Steps.{step_in}
use Rattle.wf_report.proofs.BodyLemmas.{gathered, items_from}
use Rattle.wf_report.proofs.reading.read_lines.Given as goal

abbrev pub invariant-lines : goal.invariant-lines
invariant-lines l =
    (gathered (λ xs. xs) (map line_of l.lines.items) (items_from (step_in l.part) l.at (lines_of l.rest)) ≡ steps_from (step_in l.part) l.first (lines_of l.text))
    × (l.at + length l.rest ≤ l.first + length l.text)
    × (l.at ≡ l.first + length l.lines.items)

abbrev pub decreases-lines : goal.decreases-lines
decreases-lines l = length l.rest
