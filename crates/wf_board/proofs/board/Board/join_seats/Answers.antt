use Rattle.std.proofs.Common.{rules, ◌≡◌, ◌+◌, ◌*◌, ◌≤◌, List, [], ◌∷◌, ◌++◌, length, arith, ap, sym, ◌∙◌, refl, append-nil, length-append}
use Rattle.std.proofs.Math.Nat.{mul-le-mul_right, add-mul}
use Rattle.wf_core.proofs.Lemmas.{popped_has, popped_is, popped_length}
use Rattle.wf_board.specs.Desk.{Desk, BoardId, known, gathered}
use Rattle.wf_board.specs.Rule.{Seated}
use Rattle.wf_board.proofs.Parts.{joins}
use Rattle.wf_board.proofs.Seats.{few_posts}
use Rattle.wf_board.proofs.Gathered.{joined_is}
use Rattle.wf_board.proofs.board.Board.join_seats.Goals as goal

pub loop-next-init : goal.loop-next-init
loop-next-init c =
    let i = c.first.invariant in
    let u = c.first.view_is in
    let d = c.args.first in
    let of = popped_has (λ (x : Desk). (x.table ≡ c.args.self.now.table) × (x.branches ≡ c.args.self.now.branches)) _ (c.args.seats.items ++ d ∷ []) c.args.seats.items [] d (sym (append-nil _)) refl c.requires.seats in
    let few = few_posts _ _ _ _ i in
    let branches = ap (λ (x : Desk). x.branches) u in
    let same = of.1 in
    (d ∷ [], refl, ap (λ (x : Desk). x.table) u ∙ of.0, i.is ∙ ap (λ (x : Desk). (known x, [])) u, i.counted ∙ ap (λ (x : Desk). length x.posted) u, omega arith)

pub join_seat-requires : goal.join_seat-requires
join_seat-requires c =
    let h = c.loop-next.invariant in
    let of = popped_has (λ (x : Desk). (x.table ≡ c.args.self.now.table) × (x.branches ≡ c.args.self.now.branches)) _ c.loop-next.seats.items c.pop.new.self.items h.0 c.in-Some.next h.1 c.in-Some.ensures.items c.requires.seats in
    let t = ap (λ (x : BoardId). x.table) c.self.view_is in
    (h.2 ∙ sym t, ap (λ (x : Desk). x.table) c.next.view_is ∙ of.0 ∙ sym t, ap (λ (m : Seated). m.1) c.next.invariant.is, omega (arith, c.self.invariant.0), joins _ _ _ _ _)

pub overflow_add-posts : goal.overflow_add-posts
overflow_add-posts c =
    let h = c.loop-next.invariant in
    let of = popped_has (λ (x : Desk). (x.table ≡ c.args.self.now.table) × (x.branches ≡ c.args.self.now.branches)) _ c.loop-next.seats.items c.pop.new.self.items h.0 c.in-Some.next h.1 c.in-Some.ensures.items c.requires.seats in
    let len = popped_length _ c.pop.new.self.items h.0 c.in-Some.next (popped_is _ _ _ h.0 c.in-Some.next h.1 c.in-Some.ensures.items) in
    let few = few_posts _ _ _ _ c.next.invariant in
    let branches = ap (λ (x : Desk). x.branches) c.next.view_is in
    let same = of.1 in
    let all : (length h.0 + 1) * c.args.self.now.branches ≤ length (c.args.seats.items ++ c.args.first ∷ []) * c.args.self.now.branches = mul-le-mul_right c.args.self.now.branches len in
    let one_more = add-mul (length h.0) 1 c.args.self.now.branches in
    let room = c.requires.room in
    let so_far = h.5 in
    record { fits = omega arith }

pub loop-next-preserved : goal.loop-next-preserved
loop-next-preserved c =
    let h = c.loop-next.invariant in
    let of = popped_has (λ (x : Desk). (x.table ≡ c.args.self.now.table) × (x.branches ≡ c.args.self.now.branches)) _ c.loop-next.seats.items c.pop.new.self.items h.0 c.in-Some.next h.1 c.in-Some.ensures.items c.requires.seats in
    let few = few_posts _ _ _ _ c.next.invariant in
    let u = c.next.view_is in
    let branches = ap (λ (x : Desk). x.branches) u in
    let same = of.1 in
    let d = c.in-Some.next in
    let next = c.next.invariant.is ∙ ap (λ (x : Desk). (known x, [])) u in
    let me = joined_is c.loop-next.all.me c.next.inside.seat.me c.join_seat.new.seat.me h.0 d h.3 next c.join_seat.ensures.2 in
    let one_more = add-mul (length h.0) 1 c.args.self.now.branches in
    let bound = h.5 in
    let so_far = h.4 in
    let posts = c.next.invariant.counted ∙ ap (λ (x : Desk). length x.posted) u in
    let both = length-append (gathered h.0).posted d.posted in
    (d ∷ h.0, popped_is _ _ _ h.0 d h.1 c.in-Some.ensures.items, c.join_seat.ensures.0 ∙ h.2, me, omega arith, omega arith)

pub returns : goal.returns
returns c =
    let h = c.loop-next.invariant in
    let x = c.in_default.ensures in
    let empty : c.loop-next.seats.items ≡ [] = search rules in
    let e : c.args.seats.items ++ c.args.first ∷ [] ≡ h.0 = h.1 ∙ ap (λ l. l ++ h.0) empty in
    (h.2, h.3 ∙ ap (λ (l : List Desk). (gathered l, [])) (sym e), h.4 ∙ ap (λ (l : List Desk). length (gathered l).posted) (sym e))
