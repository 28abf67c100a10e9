use Rattle.std.proofs.Common.{◌++◌, Some, length, map, string_bytes, ap, sym, ◌∙◌, arith}
use Rattle.wf_model.specs.Problem.{problem_of}
use Rattle.wf_base.specs.Lines.Lines.{line_of}
use Rattle.wf_report_explain.specs.Words.Text.{named_executions}
use Rattle.wf_report_explain.specs.Argument.Parts.{parts_of}
use Rattle.wf_report_explain.specs.Argument.Text.{parts_text, steps_made}
use Rattle.wf_report_explain.proofs.argument.parts.put_lines.Goals as goal

pub put_parts-requires-clause-number : goal.put_parts-requires-clause-number
put_parts-requires-clause-number c =
    let p = problem_of c.args.task.now c.args.protocol.now.rounds in
    ap (λ s. s.number) (c.in_ok-state.ensures.state p (ap length (sym c.requires.points_are) ∙ sym c.points.ensures.points))

pub returns-clause-text : goal.returns-clause-text
returns-clause-text c =
    let t = c.args.task.now in let r = c.args.protocol.now.rounds in
    let p = problem_of t r in
    c.in_ok-put_parts.ensures.text
    ∙ ap (λ s. string_bytes c.args.text.now ++ parts_text p (named_executions t r) (Some s) (parts_of (map line_of c.args.lines.now)))
    (c.in_ok-state.ensures.state p (ap length (sym c.requires.points_are) ∙ sym c.points.ensures.points))

pub returns-clause-steps : goal.returns-clause-steps
returns-clause-steps c =
    let t = c.args.task.now in let r = c.args.protocol.now.rounds in
    let p = problem_of t r in
    let begins = ap (λ s. steps_made p (Some s) (parts_of (map line_of c.args.lines.now)))
    (c.in_ok-state.ensures.state p (ap length (sym c.requires.points_are) ∙ sym c.points.ensures.points)) in
    omega (arith, c.in_ok-put_parts.ensures.number, begins)
