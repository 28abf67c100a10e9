use Rattle.std.proofs.Common.{string_bytes}
use Rattle.wf_report_explain.specs.Argument.Trail.{state_of}
use Rattle.wf_report_explain.proofs.OfArgument.TextParts.{going_on, told_with_case}
use Rattle.wf_report_explain.proofs.argument.parts.put_end.Goals as goal

pub returns-clause-text : goal.returns-clause-text
returns-clause-text c = told_with_case (string_bytes c.args.text.now) (string_bytes c.put_emptied.new.text) (string_bytes c.put_case.new.text) _ c.in_ok-case.case (state_of c.args.state.now).later c.in_ok-put_emptied.ensures c.in_ok-put_case.ensures c.in_ok-case.ensures.case

pub returns-clause-state : goal.returns-clause-state
returns-clause-state c = going_on c.in_ok-case.case c.next.new.self c.is_some.result _ c.is_some.ensures c.in_ok-case.ensures.state
