use Rattle.std.proofs.Common.{codes, string_bytes}
use Rattle.wf_report_explain.specs.Words.Text.{margin, name}
use Rattle.wf_report_explain.proofs.OfArgument.TextParts.{one_line}
use Rattle.wf_report_explain.proofs.argument.parts.put_emptied.Goals as goal

pub returns : goal.returns
returns c = one_line (string_bytes c.args.text.now) (string_bytes c.put_margin.new.text) (string_bytes c.writeln.new.self) (margin c.args.depth) (name c.args.point) (codes " has no value left.") (codes "\n") c.in_ok-put_margin.ensures c.in_ok-writeln.ensures.bytes
