use Rattle.std.proofs.Common.{◌++◌, string_bytes, ap, ◌∙◌}
use Rattle.wf_model.specs.PointsText.{decision_text}
use Rattle.wf_complex.specs.Views.{view_at}
use Rattle.wf_run.proofs.ToldLines.{one_view, point_told}
use Rattle.wf_run.proofs.points.put_point.Goals as goal

pub returns : goal.returns
returns c =
    let at = c.args.protocol.now in
    point_told c.args.ranks c.args.map.now c.args.point (view_at c.views.result.now c.view_of.result) (view_at at.points c.args.point)
    (string_bytes c.args.text.now) (string_bytes c.write.new.self) (string_bytes c.put_view.new.text) (string_bytes c.put_decision.new.text) (string_bytes c.writeln.new.self)
    (ap (λ vs. view_at vs c.view_of.result) c.views.ensures ∙ one_view at.table at.points c.view_of.result c.args.point c.view_of.ensures)
    c.in_ok-write.ensures.bytes c.in_ok-put_view.ensures (c.in_ok-put_decision.ensures ∙ ap (λ o. string_bytes c.put_view.new.text ++ decision_text o) c.decision_at.ensures) c.in_ok-writeln.ensures.bytes
