-- What the checker asks of the rows of a task at hand.
use Rattle.std.specs.Prelude.{◌≡◌, List, All, length}
use Rattle.wf_model.specs.Task.{Task, Tuple, inputs}
use Rattle.wf_tree_refine.specs.AtHand.{at_hand}

-- a list of tuples for each input simplex, and in a tuple a value for each participant
pub record FitsInputs (t : Task) (rows : List (List Tuple)) : Type 0 where
  pub each : length rows ≡ length (inputs t)
  pub long : All (λ rule. All (λ tuple. length tuple ≡ length rule.input) rule.tuples) (at_hand t rows).delta
