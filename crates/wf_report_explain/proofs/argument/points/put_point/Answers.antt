use Rattle.std.proofs.Common.{◌++◌, decimal, string_bytes, ap, ◌∙◌}
use Rattle.wf_model.specs.PointsText.{view_text}
use Rattle.wf_model.specs.View.{base}
use Rattle.wf_complex.specs.Views.{view_at}
use Rattle.wf_report_explain.proofs.OfArgument.Usage.{point_line, same_got}
use Rattle.wf_base.proofs.OfStreams.Lemmas.{failed}
use Rattle.wf_report_explain.proofs.argument.points.put_point.Goals as goal

pub returns : goal.returns
returns c =
    let b = c.args.protocol.now in let ranks = c.args.ranks in
    point_line (string_bytes c.args.text.now) (string_bytes c.write.new.self) (string_bytes c.put_view.new.text) (string_bytes c.writeln.new.self) (decimal c.args.point) _ c.in_ok-write.ensures.bytes
    (c.in_ok-put_view.ensures ∙ ap (λ v. string_bytes c.write.new.self ++ view_text ranks v) (ap (λ vs. view_at vs c.view_of.result) c.views.ensures ∙ same_got b.table b.points c.view_of.result c.args.point (base 0 0) c.view_of.ensures))
    c.in_ok-writeln.ensures.bytes

pub returns-in_err-write : goal.returns-in_err-write
returns-in_err-write c = failed c.from_residual.result _ c.from_residual.ensures.0

pub returns-in_err-put_view : goal.returns-in_err-put_view
returns-in_err-put_view c = failed c.from_residual-in_err-put_view.result _ c.from_residual-in_err-put_view.ensures.0

pub returns-in_err-writeln : goal.returns-in_err-writeln
returns-in_err-writeln c = failed c.from_residual-in_err-writeln.result _ c.from_residual-in_err-writeln.ensures.0
