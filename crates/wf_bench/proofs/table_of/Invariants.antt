use Rattle.std.proofs.Common.{◌≡◌, ◌≤◌, length}
use Rattle.std.specs.List.{All}
use Rattle.wf_bench.proofs.table_of.Given as goal

abbrev pub invariant-loop : goal.invariant-loop
invariant-loop l =
    record {
      few : length l.rows.items ≤ l.counter;
      long : All (λ row. length row ≡ 4) l.rows.items;
    }
