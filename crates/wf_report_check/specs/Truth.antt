-- What a report says of a task and its r rounds.
use Rattle.std.specs.Prelude.{◌≡◌, ℕ}
use Rattle.wf_model.specs.Task.{Task}
use Rattle.wf_model.specs.View.{View}
use Rattle.wf_model.specs.DecisionMap.{IsDecisionMap, HasNoDecisionMap, IsLeast, listed}
use Rattle.wf_model.specs.Report.{Body, a_map, none, least}

-- A map lists a decision map over the points. Where there is none, no
-- function on the views is a decision map.
abbrev pub HoldsOf : Task → ℕ → Body → Type 0
HoldsOf t r (a_map m) = (f : View → ℕ) × IsDecisionMap t r f × (listed t r f ≡ m)
HoldsOf t r (none ls) = HasNoDecisionMap t r
HoldsOf t r (least m ls) = (f : View → ℕ) × IsLeast t r f × (listed t r f ≡ m)
