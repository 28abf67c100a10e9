use Rattle.std.proofs.Common.{◌≡◌, ℕ, ◌<◌, ◌≤◌, ◌-◌, ◌*◌, ◌^◌, length}
use Rattle.wf_network.specs.Marks.{bit_of}
use Rattle.wf_network.proofs.marks.next_bit.Given as goal

abbrev pub decreases-words : goal.decreases-words
decreases-words l = 64 * length l.words - l.from

abbrev pub invariant-words : goal.invariant-words
invariant-words l = (l.fn.from ≤ l.from) × (l.from < 2 ^ 34) × ((m : ℕ) → l.fn.from ≤ m → m < l.from → bit_of l.words m ≡ 0)
