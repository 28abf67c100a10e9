use Rattle.std.proofs.Common.{rules, arith, ◌<◌, sym, subst, replicate, length, drop, take, []}
use Rattle.std.proofs.lemmas.List.{length-replicate}
use Rattle.atomic_table.specs.Table.{Splits}
use Rattle.wf_board.specs.Desk.{knows}
use Rattle.wf_board.specs.Rule.{Shown, Seated}
use Rattle.wf_board.proofs.Parts.{splits}
use Rattle.wf_board.proofs.board.Board.split_seat.Goals as goal

pub split_seat-seat-requires : goal.split_seat-seat-requires
split_seat-seat-requires c =
    let some : 0 < length (replicate c.args.rest.now.left c.args.self.now.branches) =
    (let r = c.requires.some in let e = length-replicate c.args.rest.now.left c.args.self.now.branches in omega arith) in (
      search rules,
      omega (arith, c.self.invariant.0),
      subst (λ (m : Seated). Splits (Shown c.self.inside.table.shared.key) c.args.rest.now.seat.id m.0 (knows (drop 1 m.0.seen) m.0.posted m.0.refuted m.0.cut) (knows (take 1 m.0.seen) [] [] [])) (sym c.requires.rest.0)
          (splits _ _ _ some),
    )
