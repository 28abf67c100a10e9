use Rattle.std.proofs.Common.{◌≡◌, ◌++◌, flat_map, map, take}
use Rattle.wf_model.specs.Report.{line_text}
use Rattle.wf_base.specs.Lines.Lines.{line_of}
use Rattle.wf_report.proofs.writing.put_lines.Given as goal

abbrev pub invariant-loop-line : goal.invariant-loop-line
invariant-loop-line l = l.text.items ≡ l.initial.text.items ++ flat_map line_text (map line_of (take l.line-index l.lines))
