use Rattle.std.proofs.Common.{rules, ◌≡◌, min, [], ◌∷◌, ◌++◌, arith, ap, sym, ◌∙◌, subst}
use Rattle.std.proofs.Math.Nat.{le-mul_of_pos_right}
use Rattle.wf_board.specs.Desk.{IsLow}
use Rattle.wf_board.specs.Desk.{Desk, BoardId, knows, known, posted}
use Rattle.wf_board.proofs.SeatSteps.{posts_number}
use Rattle.wf_board.proofs.Seats.{sits_room, sits_posted, one_seen, desk_at, sits_known, desk_is, inside_of, fresh_of}
use Rattle.wf_board.proofs.board.Board.post.Goals as goal

pub fetch_min-found-requires : goal.fetch_min-found-requires
fetch_min-found-requires c =
    let inside = inside_of c.args.branch _ _ c.requires.branch.0 (ap (λ (x : Desk). x.branches) c.seat.view_is ∙ c.requires.board.1) in
    let fresh = fresh_of c.args.branch _ _ c.seat.view_is c.requires.branch.1 in
    let h = c.self.invariant in
    let key = c.self.inside.table.shared.key in
    let same : c.seat.inside.branches ≡ key.branches =
    ap (λ (x : Desk). x.branches) c.seat.view_is ∙ c.requires.board.1 ∙ sym (h.2 ∙ ap (λ (x : BoardId). x.branches) c.self.view_is) in
    let room = sits_room _ _ _ _ c.args.branch c.seat.invariant inside fresh in
    let number = c.from.ensures in
    (search rules, omega (arith, h.0), posts_number _ _ _ _ _ (one_seen _ _ _ _ c.seat.invariant) (omega arith) (omega arith))

pub overflow_add-seat : goal.overflow_add-seat
overflow_add-seat c =
    let inside = inside_of c.args.branch _ _ c.requires.branch.0 (ap (λ (x : Desk). x.branches) c.seat.view_is ∙ c.requires.board.1) in
    let fresh = fresh_of c.args.branch _ _ c.seat.view_is c.requires.branch.1 in
    let h = c.self.invariant in
    let key = c.self.inside.table.shared.key in
    let same : c.seat.inside.branches ≡ key.branches =
    ap (λ (x : Desk). x.branches) c.seat.view_is ∙ c.requires.board.1 ∙ sym (h.2 ∙ ap (λ (x : BoardId). x.branches) c.self.view_is) in
    let room = sits_room _ _ _ _ c.args.branch c.seat.invariant inside fresh in
    let few = le-mul_of_pos_right c.self.inside.branches h.5 in
    let posts = c.seat.invariant.counted in
    record { fits = omega arith }

pub invariant_of-seat : goal.invariant_of-seat
invariant_of-seat c =
    let me = c.seat.inside.seat.me in
    let d = desk_at c.seat.inside.seat.table_id c.seat.inside.branches c.seat.inside.seen me in
    let knows_d = sits_known d.table d.seen c.seat.inside.posts d.branches me c.seat.invariant in
    let inside = inside_of c.args.branch _ _ c.requires.branch.0 (ap (λ (x : Desk). x.branches) c.seat.view_is ∙ c.requires.board.1) in
    let fresh = fresh_of c.args.branch _ _ c.seat.view_is c.requires.branch.1 in
    let number = c.from.ensures in
    let least = ap (min c.fetch_min-found.result) (number ∙ sym c.from-2.ensures) ∙ sym c.min.ensures in
    let after : c.fetch_min-found.new.seat.me ≡ (known (posted d c.args.branch c.min.result), me.1) =
    (c.fetch_min-found.ensures.2 d knows_d).1 ∙ (λ k. (knows (least k ∷ []) (me.0.posted ++ number k ∷ []) me.0.refuted me.0.cut, me.1)) in
    sits_posted _ _ _ _ _ _ c.args.branch c.seat.invariant inside fresh after

pub returns-clause-posted : goal.returns-clause-posted
returns-clause-posted c =
    let me = c.seat.inside.seat.me in
    let d = desk_at c.seat.inside.seat.table_id c.seat.inside.branches c.seat.inside.seen me in
    let knows_d = sits_known d.table d.seen c.seat.inside.posts d.branches me c.seat.invariant in
    let number = c.from.ensures in
    let least = ap (min c.fetch_min-found.result) (number ∙ sym c.from-2.ensures) ∙ sym c.min.ensures in
    let after : c.fetch_min-found.new.seat.me ≡ (known (posted d c.args.branch c.min.result), me.1) =
    (c.fetch_min-found.ensures.2 d knows_d).1 ∙ (λ k. (knows (least k ∷ []) (me.0.posted ++ number k ∷ []) me.0.refuted me.0.cut, me.1)) in
    desk_is _ _ (posted d c.args.branch c.min.result) _ c.fetch_min-found.ensures.0 after
    ∙ ap (λ (x : Desk). posted x c.args.branch c.min.result) c.seat.view_is

pub returns-clause-low : goal.returns-clause-low
returns-clause-low c =
    let me = c.seat.inside.seat.me in
    let d = desk_at c.seat.inside.seat.table_id c.seat.inside.branches c.seat.inside.seen me in
    let knows_d = sits_known d.table d.seen c.seat.inside.posts d.branches me c.seat.invariant in
    let least = ap (min c.fetch_min-found.result) (c.from.ensures ∙ sym c.from-2.ensures) ∙ sym c.min.ensures in
    subst (λ (x : Desk). IsLow x c.min.result) c.seat.view_is (subst (IsLow d) least (c.fetch_min-found.ensures.2 d knows_d).0)
