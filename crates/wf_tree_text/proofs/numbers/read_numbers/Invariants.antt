use Rattle.std.proofs.Common.{◌≡◌, length}
use Rattle.wf_report.specs.Steps.{words}
use Rattle.wf_tree_text.specs.Text.{numbers_of_words}
use Rattle.wf_tree_text.proofs.NumberWords.{behind}
use Rattle.wf_tree_text.proofs.numbers.read_numbers.Given as goal

abbrev pub invariant-words : goal.invariant-words
invariant-words l = numbers_of_words (words l.text) ≡ behind l.numbers.items l.rest

abbrev pub decreases-words : goal.decreases-words
decreases-words l = length l.rest
