-- Worked examples, by computation.
use Rattle.std.specs.Prelude.{◌≡◌, [], ◌∷◌, refl}
use Rattle.wf_model.specs.Refutation.{remove, empty, branch, found}
use Rattle.wf_search.specs.Found.{turns}

-- one branches, one takes a value out and empties a point, and one comes to a map
pub three_turns : turns (branch 0 ∷ remove 1 0 2 ∷ empty 3 ∷ found ∷ []) ≡ 3
three_turns = refl

pub no_turn_without_a_last_line : turns (remove 1 0 2 ∷ remove 1 1 2 ∷ []) ≡ 0
no_turn_without_a_last_line = refl
