use Rattle.std.proofs.Common.{◌++◌, Some, map, string_bytes, sym, ap, ◌∙◌}
use Rattle.std.specs.List.{count_by}
use Rattle.wf_base.specs.Lines.Lines.{line_of}
use Rattle.wf_model.specs.Problem.{problem_of}
use Rattle.wf_report_explain.specs.Words.Text.{named_executions}
use Rattle.wf_report_explain.specs.Argument.Parts.{parts_of}
use Rattle.wf_report_explain.specs.Argument.ArgumentState.{start}
use Rattle.wf_report_explain.specs.Argument.Text.{parts_text, summary_of}
use Rattle.wf_report_explain.specs.Argument.Used.{marked_scopes, marked_text, title_of}
use Rattle.wf_report_explain.proofs.OfArgument.Usage.{whole}
use Rattle.wf_report_explain.proofs.argument.argument.write_argument.Goals as goal

pub returns : goal.returns
returns c =
    let t = c.args.task.now in let b = c.args.protocol.now in
    let marks = c.in_ok-executions.executions.items in let points = c.in_ok-points.points.items in
    let steps = c.in_ok-steps.steps in let used = c.count.result in let count = c.executions.result in
    let t0 = string_bytes c.new-text.result in let t2 = string_bytes c.writeln.new.self in let t4 = string_bytes c.writeln-2.new.self in let t5 = string_bytes c.push_str.new.self in
    let used_are = c.count.ensures ∙ ap (count_by (λ is_marked. is_marked)) c.as_slice.ensures.value in
    let seen = c.of-used.ensures.marks ∙ c.as_slice-3.ensures.value in
    whole t b (map line_of c.args.lines.now) marks points steps used count (string_bytes c.put_lines.new.text) t0 (string_bytes c.put_title.new.text) t2 (string_bytes c.put_points.new.text) t4 t5 (string_bytes c.put_summary.new.text) c.into_bytes.result.items
    c.requires
    (record {
      steps_are = c.in_ok-steps.ensures.steps;
      used_are = used_are;
      count_is = c.executions.ensures.executions;
      executions_are = c.in_ok-executions.ensures;
      points_are = c.in_ok-points.ensures;
    })
    c.new-text.ensures.bytes
    (c.in_ok-put_title.ensures ∙ ap (λ rounds. t0 ++ title_of rounds steps used count) c.rounds.ensures)
    c.in_ok-writeln.ensures.bytes
    (c.in_ok-put_points.ensures ∙ ap (λ marks. t2 ++ marked_text c.symmetric.result marks 0 b.points) c.as_slice-2.ensures.value ∙ ap (λ ranks. t2 ++ marked_text ranks points 0 b.points) c.symmetric.ensures)
    c.in_ok-writeln-2.ensures.bytes
    (c.in_ok-steps.ensures.text ∙ ap (λ xs. xs ++ parts_text (problem_of t b.rounds) (named_executions t b.rounds) (Some (start (problem_of t b.rounds))) (parts_of (map line_of c.args.lines.now))) c.new-parts.ensures.bytes)
    (c.in_ok-push_str.ensures.bytes ∙ ap (λ xs. t4 ++ xs) c.as_str.ensures.value)
    (c.in_ok-put_summary.ensures
    ∙ (λ i. t5 ++ summary_of (c.symmetric-2.ensures i) steps (count_by (λ is_marked. is_marked) (seen i)) (marked_scopes (seen i) (c.of-used.ensures.protocol i).scopes))
    ∙ ap (λ n. t5 ++ summary_of t.symmetric steps n (marked_scopes marks b.scopes)) (sym used_are))
    (ap (λ v. v.items) c.into_bytes.ensures.value)
