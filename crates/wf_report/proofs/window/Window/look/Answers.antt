use Rattle.std.proofs.Common.{length, min, take, ap, ◌∙◌}
use Rattle.wf_report.proofs.Rooms.{near_line}
use Rattle.wf_report.proofs.window.Window.look.Goals as goal

pub returns-in-Some : goal.returns-in-Some
returns-in-Some c =
    let pending = c.pending-pending.result.now in
    let k = c.min.result in
    near_line c.args.self.now (take k pending) k (c.min.ensures ∙ ap (λ t. min (length t) 22) c.pending-pending.ensures) (ap (take k) c.pending-pending.ensures)
    c.in-Some.line.now c.in-Some.field-0-1.now c.in-Some.ensures.cases.0 c.in-Some.ensures.cases.1
