-- A split as the code has it.
use Rattle.std.specs.Prelude.{◌≡◌, List, All, length, map}
use Rattle.wf_model.specs.Simplex.{Simplex}
use Rattle.wf_model.specs.Task.{Rule, Tuple}
use Rattle.wf_tree_model.specs.Splits.{Splitting, choices, with_names}
use Rattle.wf_tree_refine.specs.Choices.{AreChoices}
use Rattle.wf_tree_refine.specs.Names.{splitting}
use Rattle.wf_tree_refine.specs.declared.splits.Split.{Split}

abbrev pub rule_of : Simplex → List Tuple → Rule
rule_of simplex rows = record { input = simplex; tuples = rows }

abbrev pub split_seen : Split → Splitting
split_seen split = splitting split.simplex split.rows.now split.new

-- the tuples have a value for each participant, stand beside those with names, and a table has all
-- names of each value
pub record IsSplit (split : Split) : Type 0 where
  pub long : All (λ row. length row ≡ length split.simplex) split.rows.now
  pub named : split.named.items ≡ map (with_names (split_seen split)) split.rows.now
  pub sets : AreChoices (choices (split_seen split)) 256 split.sets.items
