use Rattle.std.proofs.Common.{All, [], ◌≡◌, ◌+◌, ◌*◌, ◌≤◌, ℕ, drop, take, None}
use Rattle.wf_model.specs.Simplex.{values_of}
use Rattle.wf_simplex.specs.Entries.{value_at, ascends_from}
use Rattle.wf_simplex.specs.Keys.{key_of, one_vertex}
use Rattle.wf_simplex.proofs.simplex.Simplex.read.Given as goal

abbrev pub invariant-loop-process : goal.invariant-loop-process
invariant-loop-process l = record {
  key : l.key ≡ key_of (take l.process-index l.pairs);
  few : l.key ≤ l.process-index * one_vertex + key_of [];
  count : l.process-index ≤ l.least;
  most : l.least ≤ 4;
  absent : (p : ℕ) → l.least ≤ p → value_at (take l.process-index l.pairs) p ≡ None;
  small : All (λ x. x ≤ 255) (values_of (take l.process-index l.pairs));
  ascends : ascends_from l.least (drop l.process-index l.pairs) ≡ ascends_from 0 l.pairs;
}
