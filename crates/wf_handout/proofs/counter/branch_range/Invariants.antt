use Rattle.std.proofs.Common.{ℕ, ◌≡◌, ◌+◌, []}
use Rattle.wf_core.specs.Count.{times, once_below}
use Rattle.wf_handout.proofs.counter.branch_range.Given as goal

abbrev pub invariant-loop-i : goal.invariant-loop-i
invariant-loop-i l = ((x : ℕ) → once_below x l.from + times x l.left.items ≡ once_below x l.i) × (l.from ≡ l.i → l.left.items ≡ [])
