use Rattle.std.proofs.Common.{rules, ℕ, ◌≡◌, ◌*◌, ◌^◌, ◌<◌, arith, ap, sym, ◌∙◌}
use Rattle.wf_board.specs.Desk.{Desk, BoardId, known, searched}
use Rattle.wf_board.proofs.SeatSteps.{refutes_number}
use Rattle.wf_board.proofs.Seats.{sits_room, sits_refuted, one_seen, desk_at, sits_known, desk_is, inside_of, fresh_of}
use Rattle.wf_board.proofs.board.Board.add_refuted.Goals as goal

pub fetch_add-requires : goal.fetch_add-requires
fetch_add-requires g c =
    let inside = inside_of c.args.branch _ _ c.requires.branch.0 (ap (λ (x : Desk). x.branches) c.seat.view_is ∙ c.requires.board.1) in
    let fresh = fresh_of c.args.branch _ _ c.seat.view_is c.requires.branch.1 in
    let h = c.self.invariant in
    let key = c.self.inside.table.shared.key in
    let same : c.seat.inside.branches ≡ key.branches =
    ap (λ (x : Desk). x.branches) c.seat.view_is ∙ c.requires.board.1 ∙ sym (h.2 ∙ ap (λ (x : BoardId). x.branches) c.self.view_is) in
    let room = sits_room _ _ _ _ c.args.branch c.seat.invariant inside fresh in
    let small : key.branches * key.workers < 2 ^ 32 = rw (h.2, h.3) h.4 in
    (search rules, omega (arith, h.0), refutes_number _ _ _ _ _ small (one_seen _ _ _ _ c.seat.invariant) (omega arith))

pub invariant_of-seat : goal.invariant_of-seat
invariant_of-seat g c =
    let me = c.seat.inside.seat.me in
    let d = desk_at c.seat.inside.seat.table_id c.seat.inside.branches c.seat.inside.seen me in
    let knows_d = sits_known d.table d.seen c.seat.inside.posts d.branches me c.seat.invariant in
    let inside = inside_of c.args.branch _ _ c.requires.branch.0 (ap (λ (x : Desk). x.branches) c.seat.view_is ∙ c.requires.board.1) in
    let fresh = fresh_of c.args.branch _ _ c.seat.view_is c.requires.branch.1 in
    let after : c.fetch_add.new.seat.me ≡ (known (searched d c.args.branch), me.1) =
    c.fetch_add.ensures.2 d knows_d ∙ ap (λ (i : ℕ). (known (searched d i), me.1)) c.requires.picked in
    sits_refuted _ _ _ _ _ c.args.branch c.seat.invariant inside fresh after

pub returns : goal.returns
returns g c =
    let me = c.seat.inside.seat.me in
    let d = desk_at c.seat.inside.seat.table_id c.seat.inside.branches c.seat.inside.seen me in
    let knows_d = sits_known d.table d.seen c.seat.inside.posts d.branches me c.seat.invariant in
    let after : c.fetch_add.new.seat.me ≡ (known (searched d c.args.branch), me.1) =
    c.fetch_add.ensures.2 d knows_d ∙ ap (λ (i : ℕ). (known (searched d i), me.1)) c.requires.picked in
    desk_is _ _ (searched d c.args.branch) _ c.fetch_add.ensures.0 after ∙ ap (λ (x : Desk). searched x c.args.branch) c.seat.view_is
