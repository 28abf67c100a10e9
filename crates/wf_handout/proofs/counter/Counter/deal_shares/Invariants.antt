use Rattle.std.proofs.Common.{◌≡◌, ◌+◌, ◌<◌, length}
use Rattle.std.specs.Prelude.{All}
use Rattle.wf_handout.specs.Hands.{IsRest, fresh_hand}
use Rattle.wf_handout.proofs.counter.Counter.deal_shares.Given as goal

abbrev pub decreases-loop-rest : goal.decreases-loop-rest
decreases-loop-rest l = l.rest.left

abbrev pub invariant-loop-rest : goal.invariant-loop-rest
invariant-loop-rest l =
    (0 < l.rest.left) × IsRest l.rest.seat.me l.rest.left × (l.rest.seat.table_id ≡ l.self.table)
    × (length l.shares.items + l.rest.left ≡ l.fn.rest.left) × All (λ d. d ≡ fresh_hand l.self) l.shares.items
