use Rattle.std.proofs.Common.{◌≡◌, ◌+◌, ◌∙◌, length, ap, arith}
use Rattle.std.specs.Prelude.{slice_range}
use Rattle.wf_report.specs.Windows.{Ahead, passed}
use Rattle.wf_report.proofs.Rooms.{passed_is, pending_size}
use Rattle.wf_report.proofs.window.Window.pass.Goals as goal

pub overflow_add-self-2 : goal.overflow_add-self-2
overflow_add-self-2 c =
    let i = c.self.inside in
    let size = pending_size i.room.items i.first i.past c.self.invariant in
    let seen = ap (λ (w : Ahead). length w.pending) c.self.view_is in
    let inside = c.requires.line.inside in
    omega (arith, size, seen, inside, c.self.invariant.within)

pub returns : goal.returns
returns c =
    let i = c.self.inside in
    let size = pending_size i.room.items i.first i.past c.self.invariant in
    let seen = ap (λ (w : Ahead). length w.pending) c.self.view_is in
    let inside = c.requires.line.inside in
    let moved = passed_is i.room.items i.first i.past c.args.size (omega (arith, size, seen, inside)) in
    let same : record { pending = slice_range i.room.items (i.first + (c.args.size + 1)) i.past; given = i.given; most = i.most; number = i.number + 1; ended = i.is_ended } ≡ passed c.args.size (record { pending = slice_range i.room.items i.first i.past; given = i.given; most = i.most; number = i.number; ended = i.is_ended }) =
    λ k. record { pending = moved k; given = i.given; most = i.most; number = i.number + 1; ended = i.is_ended } in
    same ∙ ap (passed c.args.size) c.self.view_is
