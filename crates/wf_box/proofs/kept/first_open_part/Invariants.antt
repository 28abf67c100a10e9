use Rattle.std.proofs.Common.{◌≡◌, ℕ, ◌<◌, false, length, nat_lt, slice_index_or}
use Rattle.wf_base.specs.Set.Parts.{part_values}
use Rattle.wf_box.proofs.kept.first_open_part.Given as goal

abbrev pub invariant-loop-i : goal.invariant-loop-i
invariant-loop-i l = (k : ℕ) → k < l.i → nat_lt 1 (length (part_values (slice_index_or l.parts k 0))) ≡ false
