use Rattle.std.proofs.Common.{◌≡◌, ◌≤◌, length}
use Rattle.std.specs.List.{All}
use Rattle.wf_search_tests.proofs.lanes.support_of.Given as goal

abbrev pub invariant-loop-i : goal.invariant-loop-i
invariant-loop-i l =
    record {
      few : length l.kept.items ≤ l.i;
      long : All (λ row. length row ≡ l.width) l.kept.items;
    }
