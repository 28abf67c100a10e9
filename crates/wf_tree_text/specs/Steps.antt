-- One line more: what it says, and what the nodes become.
use Rattle.std.specs.Prelude.{ℕ, Bool, List, Option, Some, None, option_and_then, if◌then◌else◌}
use Rattle.wf_model.specs.Report.{words_of}
use Rattle.wf_tree_model.specs.Trees.{Node}
use Rattle.wf_tree_steps.specs.Balance.Multipliers.{multiplier_seen}
use Rattle.wf_tree_steps.specs.Cover.Faults.{move_seen}
use Rattle.wf_tree_text.specs.Text.{TextLine, balance_at, case_at, cover_at, line_of_words, move_at, multiplier_at, split_at, with_line}
use Rattle.wf_tree_text.specs.declared.line.NodeLine as code
use Rattle.wf_tree_text.specs.declared.line.NodeLine.TheVariants as line

abbrev pub line_seen : code.NodeLine → TextLine
line_seen (line.Case simplex) = case_at simplex
line_seen (line.Split simplex) = split_at simplex
line_seen (line.Cover simplex sheets corner) = cover_at simplex sheets corner
line_seen (line.Move move) = move_at (move_seen move)
line_seen (line.Balance modulus sum) = balance_at modulus sum
line_seen (line.Multiplier x) = multiplier_at (multiplier_seen x)

-- what became of something, if it was changed
abbrev pub changed : {X : Type 0} → Bool → X → Option X
changed is_changed x = if is_changed then Some x else None

-- the nodes with the line of this text
abbrev pub next_in : List Node → List ℕ → Option (List Node)
next_in nodes l = option_and_then (with_line nodes) (option_and_then line_of_words (words_of l))
