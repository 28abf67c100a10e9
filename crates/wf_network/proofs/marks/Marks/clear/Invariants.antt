use Rattle.std.proofs.Common.{◌≡◌, ◌<◌, ◌≤◌, ◌-◌, ℕ, length, slice_index}
use Rattle.wf_network.proofs.marks.Marks.clear.Given as goal

abbrev pub decreases-words : goal.decreases-words
decreases-words l = length l.self.words.items - l.next

abbrev pub invariant-words : goal.invariant-words
invariant-words l = record {
  long : length l.self.words.items ≡ length l.initial.self.words.items;
  within : l.next ≤ length l.self.words.items;
  cleared : (i : ℕ) → i < l.next → slice_index l.self.words.items i ≡ 0;
}
