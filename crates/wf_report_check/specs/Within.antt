-- What a checker answers about a report whose answer is about one box alone.
use Rattle.std.specs.Prelude.{◌≡◌, ℕ, ◌+◌, List, [], ◌∷◌, length, Option}
use Rattle.wf_model.specs.Task.{Task, Tuple}
use Rattle.wf_model.specs.Problem.{Problem, problem_of}
use Rattle.wf_model.specs.Box.{Box}
use Rattle.wf_model.specs.Report.{Report, Body, a_map, none, least}
use Rattle.wf_report_check.specs.Places.{tuples_of}
use Rattle.wf_model.specs.Check.{Refusal, first_fault, first_least_fault, header_fault, map_fault, unless_fault}

-- the body begins at line 7, and its lines are about this box
abbrev pub fault_within : Problem → Box → Body → Option Refusal
fault_within p box (a_map m) = map_fault p m
fault_within p box (none ls) = first_fault p 7 ls (box ∷ [])
fault_within p box (least m ls) = unless_fault (map_fault p m) (first_least_fault p m (7 + length m) ls (box ∷ []))

-- the first fault of such a report about a task and a number of rounds
abbrev pub report_fault_within : Task → ℕ → Box → Report → Option Refusal
report_fault_within t rounds box r =
    unless_fault (header_fault t rounds (problem_of t rounds) r) (fault_within (problem_of t rounds) box r.body)

-- the tuples of each rule of the task
abbrev pub IsCheckerOf : Task → List (List Tuple) → Type 0
IsCheckerOf t tuples = tuples ≡ tuples_of t.delta
