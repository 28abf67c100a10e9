use Rattle.std.proofs.Common.{◌≡◌, ◌<◌, All, length, take, slice_get, Some}
use Rattle.wf_model.specs.Word.{words}
use Rattle.wf_complex.specs.Rounds.{words_in, IsSightOf}
use Rattle.wf_complex.proofs.rounds.sights_of.Given as goal

abbrev pub invariant-loop-turn : goal.invariant-loop-turn
invariant-loop-turn l = record {
  word : l.turn < length (words l.first_block l.size) → slice_get (words l.first_block l.size) l.turn ≡ Some l.word;
  size : length l.word ≡ l.size;
  made : words_in l.all.items ≡ take l.turn (words l.first_block l.size);
  sights : All (IsSightOf l.size) l.all.items;
}
