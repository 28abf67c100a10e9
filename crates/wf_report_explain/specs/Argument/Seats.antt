-- Where a process takes part in an execution, by what the program looks up.
use Rattle.std.specs.Prelude.{ℕ, List, slice_index}
use Rattle.wf_report_explain.specs.Argument.ArgumentState.{Gone, ArgumentState, Taking, in_steps, take_each}
use Rattle.wf_report_explain.specs.declared.argument.seat.Participant.{Participant}

-- its point
abbrev pub point_at : Participant → ℕ
point_at seat = slice_index seat.points.now seat.place

-- the values of each step, where step n begins with the first
abbrev pub steps_at : Participant → ℕ → Gone → List ℕ → List (List ℕ)
steps_at seat n gone values = in_steps seat.tuples.now seat.points.now n seat.place (point_at seat) gone values

-- what is gone once the next step has taken these values, and its reasons
abbrev pub taken_at : Participant → ArgumentState → List ℕ → Taking
taken_at seat s values = take_each seat.tuples.now seat.points.now s.number seat.place (point_at seat) s.gone values
