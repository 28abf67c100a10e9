-- Tasks at hand: those that have the inputs of a task, and other tuples.
use Rattle.std.specs.Prelude.{◌≡◌, ◌≤◌, List, All, length}
use Rattle.std.specs.Cmp.Lexicographic.{slice_cmp}
use Rattle.std.specs.Ordering.{nat_cmp}
use Rattle.wf_model.specs.Lists.{in_order}
use Rattle.wf_model.specs.Task.{Rule, Task, Tuple, inputs}
use Rattle.wf_task.specs.TaskSeen.{task_with_block}
use Rattle.wf_tree_refine.specs.Near.{most_at_hand}

-- the task with these tuples at its input simplices, in order
abbrev pub at_hand : Task → List (List Tuple) → Task
at_hand t rows = task_with_block t.least_block t.processes t.symmetric (inputs t) rows t.outputs

-- tuples ascending, each once, with a value for each participant
pub record IsRuleAtHand (rule : Rule) : Type 0 where
  pub ascending : in_order (slice_cmp nat_cmp) rule.tuples ≡ rule.tuples
  pub long : All (λ tuple. length tuple ≡ length rule.input) rule.tuples
  pub few : length rule.tuples ≤ most_at_hand

-- a list of such tuples for each input simplex
pub record IsAtHand (t : Task) (rows : List (List Tuple)) : Type 0 where
  pub each : length rows ≡ length (inputs t)
  pub rules : All IsRuleAtHand (at_hand t rows).delta
