use Rattle.std.proofs.Common.{rules, arith, ap, subst, ◌∙◌}
use Rattle.wf_board.specs.Desk.{Desk, looked}
use Rattle.wf_board.specs.Desk.{IsLow}
use Rattle.wf_board.proofs.SeatSteps.{sees_least}
use Rattle.wf_board.proofs.Seats.{one_seen, desk_at, sits_known, sits_looked, desk_is}
use Rattle.wf_board.proofs.board.Board.least.Goals as goal

pub load-found-requires : goal.load-found-requires
load-found-requires c = (search rules, omega (arith, c.self.invariant.0), sees_least _ _ _ _ (one_seen _ _ _ _ c.seat.invariant))

pub overflow_cast-seat : goal.overflow_cast-seat
overflow_cast-seat c =
    let me = c.seat.inside.seat.me in
    let d = desk_at c.seat.inside.seat.table_id c.seat.inside.branches c.seat.inside.seen me in
    let knows_d = sits_known d.table d.seen c.seat.inside.posts d.branches me c.seat.invariant in
    let low = (c.load-found.ensures.2 d knows_d).0.0 in
    record { fits = omega arith }

pub invariant_of-seat : goal.invariant_of-seat
invariant_of-seat c =
    let me = c.seat.inside.seat.me in
    let d = desk_at c.seat.inside.seat.table_id c.seat.inside.branches c.seat.inside.seen me in
    let knows_d = sits_known d.table d.seen c.seat.inside.posts d.branches me c.seat.invariant in
    sits_looked _ _ _ _ _ _ c.seat.invariant (c.load-found.ensures.2 d knows_d).1

pub returns-clause-looked : goal.returns-clause-looked
returns-clause-looked c =
    let me = c.seat.inside.seat.me in
    let d = desk_at c.seat.inside.seat.table_id c.seat.inside.branches c.seat.inside.seen me in
    let knows_d = sits_known d.table d.seen c.seat.inside.posts d.branches me c.seat.invariant in
    desk_is _ _ (looked d c.load-found.result) _ c.load-found.ensures.0 (c.load-found.ensures.2 d knows_d).1
    ∙ ap (λ (x : Desk). looked x c.load-found.result) c.seat.view_is

pub returns-clause-low : goal.returns-clause-low
returns-clause-low c =
    let me = c.seat.inside.seat.me in
    let d = desk_at c.seat.inside.seat.table_id c.seat.inside.branches c.seat.inside.seen me in
    let knows_d = sits_known d.table d.seen c.seat.inside.posts d.branches me c.seat.invariant in
    subst (λ (x : Desk). IsLow x c.load-found.result) c.seat.view_is (c.load-found.ensures.2 d knows_d).0
