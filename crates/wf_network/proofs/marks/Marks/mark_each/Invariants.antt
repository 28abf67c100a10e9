use Rattle.std.proofs.Common.{◌≡◌, ◌⊎◌, ℕ, ◌<◌, get_or, length}
use Rattle.wf_network.specs.Marks.{IsMore, MarksWord, bit_of}
use Rattle.wf_network.specs.Users.{IsIn, no_word}
use Rattle.wf_network.proofs.marks.Marks.mark_each.Given as goal

abbrev pub invariant-loop-word : goal.invariant-loop-word
invariant-loop-word l = record {
  long : length l.self.words.items ≡ length l.initial.self.words.items;
  more : IsMore l.initial.self.words.items l.self.words.items;
  marked : (i : ℕ) → i < l.word-index → MarksWord l.self.words.items (get_or l.words i no_word);
  only : (e : ℕ) → bit_of l.self.words.items e ≡ 1 → (bit_of l.initial.self.words.items e ≡ 1) ⊎ IsIn 0 l.word-index l.words e;
}
