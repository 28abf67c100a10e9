use Rattle.std.proofs.Common.{◌++◌, ap, ◌∙◌, flat_map}
use Rattle.wf_model.specs.Report.{line_text}
use Rattle.wf_report.specs.Reports.{report_seen}
use Rattle.wf_report.proofs.WholeLemmas.{whole}
use Rattle.wf_report.proofs.writing.write_report.Goals as goal

pub returns : goal.returns
returns c = record {
  text =
      whole (report_seen c.args.report.now) c.in_ok-text.text.items c.put_lines.new.text.items c.put_end.new.text.items
      c.in_ok-text.ensures (c.in_ok-put_lines.ensures ∙ ap (λ ls. c.in_ok-text.text.items ++ flat_map line_text ls) c.lines.ensures) c.in_ok-put_end.ensures;
}
