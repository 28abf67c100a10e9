use Rattle.std.proofs.Common.{ℕ, ◌≡◌, ◌<◌, length, get_or}
use Rattle.wf_core.specs.declared.event.Status.TheVariants.{Free}
use Rattle.wf_core.specs.Count.{times}
use Rattle.wf_board.specs.Desk.{settled}
use Rattle.wf_search_tests.proofs.boards.work.Given as goal

-- a branch whose status is free has not been settled through the seat
abbrev pub invariant-loop-turn : goal.invariant-loop-turn
invariant-loop-turn l = record {
  size : length l.statuses ≡ 64;
  table : l.seat.table ≡ l.board.table;
  branches : l.seat.branches ≡ l.board.branches;
  fresh : (x : ℕ) → x < 64 → get_or l.statuses x Free ≡ Free → times x (settled l.seat) ≡ 0;
}
