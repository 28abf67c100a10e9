use Rattle.std.proofs.Common.{◌≡◌, ◌<◌, Some, length, slice_get, take}
use Rattle.wf_model.specs.Word.{words}
use Rattle.wf_report_explain.proofs.words.executions.words_of.Given as goal

abbrev pub invariant-loop-turn : goal.invariant-loop-turn
invariant-loop-turn l = record {
  word : l._turn < length (words l.first_block l.size) → slice_get (words l.first_block l.size) l._turn ≡ Some l.word;
  size : length l.word ≡ l.size;
  items : l.list.items ≡ take l._turn (words l.first_block l.size);
}
