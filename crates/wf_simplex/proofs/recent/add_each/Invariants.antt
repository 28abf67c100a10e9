use Rattle.std.proofs.Common.{All, take}
use Rattle.wf_simplex.specs.Adding.{AreAdded, IsAmong}
use Rattle.wf_simplex.proofs.recent.add_each.Given as goal

abbrev pub invariant-loop-simplex : goal.invariant-loop-simplex
invariant-loop-simplex l = record {
  among : All (IsAmong l.simplices.items) l.recent;
  added : AreAdded l.fn.simplices.items (take l.simplex-index l.more) l.simplices.items;
}
