-- What is still to be told of an argument.
use Rattle.std.specs.Prelude.{◌≡◌, ◌<◌, ℕ, Bool, true, false, ◌&&◌, ◌==◌, ◌++◌, List, [], ◌∷◌, drop, length, map, Option, Some, None, codes, decimal, if◌then◌else◌}
use Rattle.wf_model.specs.Problem.{constraint_at}
use Rattle.wf_model.specs.Refutation as refutation
use Rattle.wf_model.specs.Refutation.{remove, empty, branch, found}
use Rattle.wf_base.specs.Lines.Lines.{line_of}
use Rattle.wf_base.specs.declared.lines.line.Line.{Line}
use Rattle.wf_report_explain.specs.Argument.Parts.{parts_of}
use Rattle.wf_report_explain.specs.Argument.Seats.{point_at}
use Rattle.wf_report_explain.specs.Argument.ArgumentState as state
use Rattle.wf_report_explain.specs.Words.Subject.{executions_in, problem_in}
use Rattle.wf_report_explain.specs.Words.Text.{points_in, indented, name}
use Rattle.wf_report_explain.specs.Argument.Text.{parts_text, steps_made, told_taking}
use Rattle.wf_report_explain.specs.Argument.Trail.{state_of}
use Rattle.wf_report_explain.specs.declared.argument.seat.Participant.{Participant}
use Rattle.wf_report_explain.specs.declared.argument.state.Case.{Case}
use Rattle.wf_report_explain.specs.declared.argument.state.ArgumentState.{ArgumentState}
use Rattle.wf_report_explain.specs.declared.words.subject.Subject.{Subject}

-- what is said where a case has begun
abbrev pub begun_text : Option Case → List ℕ
begun_text None = []
begun_text (Some x) = indented x.depth (codes "Case " ++ (name x.point ++ (codes " = " ++ decimal x.value)))

-- how far an argument is, if more is to be said
abbrev pub now_if : Bool → ArgumentState → Option state.ArgumentState
now_if true s = Some (state_of s)
now_if false s = None

abbrev pub one_if : Bool → Option ℕ
one_if true = Some 1
one_if false = None

-- what is still to be told once so many lines are, if more is to be said
abbrev pub to_come : Subject → List Line → ArgumentState → Option ℕ → List ℕ
to_come x ls s None = []
to_come x ls s (Some n) = parts_text (problem_in x) (executions_in x) (Some (state_of s)) (parts_of (map line_of (drop n ls)))

-- how many steps are still to be told then
abbrev pub steps_to_come : Subject → List Line → ArgumentState → Option ℕ → ℕ
steps_to_come x ls s None = 0
steps_to_come x ls s (Some n) = steps_made (problem_in x) (Some (state_of s)) (parts_of (map line_of (drop n ls)))

-- ---- a process in an execution

-- its points and its tuples are those of an execution that is there
pub record IsSeat (x : Subject) (seat : Participant) : Type 0 where
  pub execution : seat.execution < length x.protocol.now.simplices
  pub inside : seat.place < length seat.points.now
  pub points : seat.points.now ≡ points_in (constraint_at (problem_in x) seat.execution)
  pub tuples : seat.tuples.now ≡ (constraint_at (problem_in x) seat.execution).tuples

-- what is told where these values are still to be taken
abbrev pub taking_left : Subject → Participant → ArgumentState → List ℕ → List ℕ
taking_left x seat s values =
    told_taking (problem_in x) (executions_in x) (state_of s) seat.execution values (Some (seat.place, point_at seat))

-- how far the argument is once they are taken
abbrev pub state_after : Subject → Participant → ArgumentState → List ℕ → state.ArgumentState
state_after x seat s values = state.after_taking (problem_in x) (state_of s) seat.execution values (Some (seat.place, point_at seat))

-- ---- lines that go together

-- the value that a line takes from this process in this execution
abbrev pub same_value : ℕ → ℕ → refutation.Line → Option ℕ
same_value e c (remove f d a) = if (e == f) && (c == d) then Some a else None
same_value e c (empty v) = None
same_value e c (branch v) = None
same_value e c found = None

abbrev pub and_values : Option ℕ → List ℕ → List ℕ
and_values None values = []
and_values (Some a) values = a ∷ values

-- those of the first lines, as far as they take one
abbrev pub same_values : ℕ → ℕ → List refutation.Line → List ℕ
same_values e c [] = []
same_values e c (l ∷ ls) = and_values (same_value e c l) (same_values e c ls)

abbrev pub or_lines : Option ℕ → List refutation.Line → List refutation.Line → List refutation.Line
or_lines None here later = here
or_lines (Some a) here later = later

-- the lines after these
abbrev pub after_same : ℕ → ℕ → List refutation.Line → List refutation.Line
after_same e c [] = []
after_same e c (l ∷ ls) = or_lines (same_value e c l) (l ∷ ls) (after_same e c ls)
