use Rattle.std.proofs.Common.{rules, ℕ, ◌≡◌, ◌*◌, ◌^◌, ◌<◌, arith, ap, sym, ◌∙◌, subst, refl}
use Rattle.wf_board.specs.Rule.{Seated}
use Rattle.std.specs.Prelude.{Contains, List}
use Rattle.wf_board.specs.Desk.{Desk, BoardId, known, is_cut}
use Rattle.wf_board.proofs.SeatSteps.{cuts_number}
use Rattle.wf_board.proofs.Seats.{sits_room, sits_cut, one_seen, desk_at, sits_known, desk_is, inside_of, fresh_of}
use Rattle.wf_board.proofs.board.Board.add_cut.Goals as goal

pub fetch_add-requires : goal.fetch_add-requires
fetch_add-requires g c =
    let inside = inside_of c.args.branch _ _ c.requires.branch.0 (ap (λ (x : Desk). x.branches) c.seat.view_is ∙ c.requires.board.1) in
    let fresh = fresh_of c.args.branch _ _ c.seat.view_is c.requires.branch.1 in
    let h = c.self.invariant in
    let key = c.self.inside.table.shared.key in
    let same : c.seat.inside.branches ≡ key.branches =
    ap (λ (x : Desk). x.branches) c.seat.view_is ∙ c.requires.board.1 ∙ sym (h.2 ∙ ap (λ (x : BoardId). x.branches) c.self.view_is) in
    let room = sits_room _ _ _ _ c.args.branch c.seat.invariant inside fresh in
    let small : key.branches * key.workers < 2 ^ 32 = rw (h.2, h.3) h.4 in
    let seen : Contains c.seat.inside.seat.me.0.seen c.seat.inside.seen =
    subst (λ (l : List ℕ). Contains l c.seat.inside.seen) (sym (ap (λ (m : Seated). m.0.seen) c.seat.invariant.is)) (0, omega arith, refl) in
    let below : c.seat.inside.seen < g.J.About.branch =
    (let s = ap (λ (x : Desk). x.seen) c.seat.view_is in let b = c.requires.below in let p = c.requires.picked in omega arith) in
    (search rules, omega (arith, h.0), cuts_number _ _ _ _ _ small (one_seen _ _ _ _ c.seat.invariant) (c.seat.inside.seen, seen, below) (omega arith))

pub invariant_of-seat : goal.invariant_of-seat
invariant_of-seat g c =
    let me = c.seat.inside.seat.me in
    let d = desk_at c.seat.inside.seat.table_id c.seat.inside.branches c.seat.inside.seen me in
    let knows_d = sits_known d.table d.seen c.seat.inside.posts d.branches me c.seat.invariant in
    let inside = inside_of c.args.branch _ _ c.requires.branch.0 (ap (λ (x : Desk). x.branches) c.seat.view_is ∙ c.requires.board.1) in
    let fresh = fresh_of c.args.branch _ _ c.seat.view_is c.requires.branch.1 in
    let after : c.fetch_add.new.seat.me ≡ (known (is_cut d c.args.branch), me.1) =
    c.fetch_add.ensures.2 d knows_d ∙ ap (λ (i : ℕ). (known (is_cut d i), me.1)) c.requires.picked in
    sits_cut _ _ _ _ _ c.args.branch c.seat.invariant inside fresh after

pub returns : goal.returns
returns g c =
    let me = c.seat.inside.seat.me in
    let d = desk_at c.seat.inside.seat.table_id c.seat.inside.branches c.seat.inside.seen me in
    let knows_d = sits_known d.table d.seen c.seat.inside.posts d.branches me c.seat.invariant in
    let after : c.fetch_add.new.seat.me ≡ (known (is_cut d c.args.branch), me.1) =
    c.fetch_add.ensures.2 d knows_d ∙ ap (λ (i : ℕ). (known (is_cut d i), me.1)) c.requires.picked in
    desk_is _ _ (is_cut d c.args.branch) _ c.fetch_add.ensures.0 after ∙ ap (λ (x : Desk). is_cut x c.args.branch) c.seat.view_is
