use Rattle.std.proofs.Common.{◌≡◌, ◌++◌, flat_map, length, map, reverse}
use Rattle.wf_model.specs.Report.{line_text}
use Rattle.wf_base.specs.Lines.Lines.{line_of}
use Rattle.wf_report.proofs.writing.take_lines.Given as goal

abbrev pub invariant-lines : goal.invariant-lines
invariant-lines l = l.text.items ++ flat_map line_text (map line_of (reverse l.left.items)) ≡ l.fn.text.items ++ flat_map line_text (map line_of l.fn.lines.items)

abbrev pub decreases-lines : goal.decreases-lines
decreases-lines l = length l.left.items
