use Rattle.std.specs.Prelude.{remove}
use Rattle.std.proofs.Common.{◌≡◌, length, take}
use Rattle.wf_task.proofs.canonical.without.Given as goal

abbrev pub invariant-loop-place : goal.invariant-loop-place
invariant-loop-place l = record {
  four : length l.pairs ≡ 4;
  made : take l.place l.pairs ≡ take l.place (remove l.simplex l.left_out);
}
