use Rattle.std.proofs.Common.{◌≡◌, ◌+◌, ◌<◌, length}
use Rattle.std.specs.Prelude.{All}
use Rattle.wf_board.specs.Rule.{IsRest}
use Rattle.wf_board.specs.Desk.{fresh_desk}
use Rattle.wf_board.proofs.board.Board.split_seats.Given as goal

abbrev pub decreases-loop-rest : goal.decreases-loop-rest
decreases-loop-rest l = l.rest.left

abbrev pub invariant-loop-rest : goal.invariant-loop-rest
invariant-loop-rest l =
    (0 < l.rest.left) × IsRest l.rest.seat.me l.rest.left l.self.branches × (l.rest.seat.table_id ≡ l.self.table)
    × (length l.seats.items + l.rest.left ≡ l.fn.rest.left) × All (λ d. d ≡ fresh_desk l.self) l.seats.items
