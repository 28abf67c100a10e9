use Rattle.std.proofs.Common.{◌≡◌, ◌*◌, ◌≤◌, ◌++◌, ◌∷◌, List, [], length}
use Rattle.wf_board.specs.Desk.{Desk, gathered}
use Rattle.wf_board.proofs.board.Board.join_seats.Given as goal

abbrev pub decreases-loop-next : goal.decreases-loop-next
decreases-loop-next l = length l.seats.items

abbrev pub invariant-loop-next : goal.invariant-loop-next
invariant-loop-next l =
    (done : List Desk) × (l.fn.seats.items ++ l.fn.first ∷ [] ≡ l.seats.items ++ done) × (l.all.table_id ≡ l.self.table) × (l.all.me ≡ (gathered done, []))
    × (l.posts ≡ length (gathered done).posted) × (l.posts ≤ length done * l.self.branches)
