-- Worked examples, by computation.
use Rattle.std.specs.Prelude.{◌≡◌, ℕ, true, false, [], ◌∷◌, map, Option, Some, None, codes, refl}
use Rattle.std.specs.Fmt.{digits}
use Rattle.wf_model.specs.ExampleTasks.{one, edge, path, consensus, renaming_2_2}
use Rattle.wf_model.specs.Problem.{Constraint, problem_of}
use Rattle.wf_model.specs.Refutation.{remove, empty, branch}
use Rattle.wf_model.specs.Simplex.{complex_of}
use Rattle.wf_model.specs.Task.{Task}
use Rattle.wf_report_explain.specs.declared.argument.losses.Loss.{Loss}
use Rattle.wf_report_explain.specs.declared.argument.reasons.Reason.{Reason}
use Rattle.wf_report_explain.specs.Argument.Parts.{parts_of, takes, closes, splits}
use Rattle.wf_report_explain.specs.Words.Text.{points_in}
use Rattle.wf_report_explain.specs.Argument.ArgumentState.{Gone, first_gone, needed, steps_in, taken, take_in, with_reasons}
use Rattle.wf_report_explain.specs.Argument.Text.{argument_text, left_there, reasons_text, summary_text}

abbrev lost : ℕ → Option ℕ → Loss
lost a step = record { value = a; step = step }

abbrev reason : ℕ → ℕ → Option ℕ → Reason
reason v a step = record { point = v; loss = lost a step }

-- values of one process in one execution go in one step
pub lines_in_steps : parts_of (remove 0 0 1 ∷ remove 0 0 2 ∷ remove 0 1 0 ∷ branch 4 ∷ remove 0 1 1 ∷ empty 3 ∷ [])
    ≡ takes 0 0 (1 ∷ 2 ∷ []) ∷ takes 0 1 (0 ∷ []) ∷ splits 4 ∷ takes 0 1 (1 ∷ []) ∷ closes 3 ∷ []
lines_in_steps = refl

-- by points; one of another step and one of the case; and values of one step together
pub reasons_in_words : reasons_text (reason 4 0 (Some 3) ∷ reason 4 2 None ∷ reason 7 1 (Some 12) ∷ reason 7 4 (Some 12) ∷ [])
    ≡ codes ", but v4 is not 0 [3], 2 in this case, and v7 is not 1 or 4 [12]"
unfolding digits
reasons_in_words = refl

-- a tuple falls with the first of its values that is gone; a reason is told
-- once, and reasons are told by point
abbrev three_points : Constraint
three_points = record { scope = (0, 5) ∷ (1, 3) ∷ (2, 3) ∷ []; tuples = (0 ∷ 1 ∷ 1 ∷ []) ∷ (0 ∷ 1 ∷ 2 ∷ []) ∷ (0 ∷ 2 ∷ 2 ∷ []) ∷ (1 ∷ 2 ∷ 2 ∷ []) ∷ [] }

abbrev two_points_lost : Gone
two_points_lost = [] ∷ [] ∷ [] ∷ (lost 1 (Some 8) ∷ lost 2 None ∷ []) ∷ [] ∷ (lost 0 (Some 6) ∷ []) ∷ []

pub the_first_that_is_gone : map (first_gone two_points_lost (points_in three_points)) three_points.tuples
    ≡ Some (reason 5 0 (Some 6)) ∷ Some (reason 5 0 (Some 6)) ∷ Some (reason 5 0 (Some 6)) ∷ Some (reason 3 2 None) ∷ []
the_first_that_is_gone = refl

pub each_reason_once : with_reasons two_points_lost (points_in three_points) [] (needed three_points.tuples 2 2)
    ≡ reason 3 2 None ∷ reason 5 0 (Some 6) ∷ []
each_reason_once = refl

-- of the values that are left those are told that some tuple has at the place
pub left_by_the_tuples : left_there three_points.tuples 2 (0 ∷ 1 ∷ 2 ∷ 3 ∷ []) ≡ 1 ∷ 2 ∷ []
left_by_the_tuples = refl

-- a value that is gone stays gone by the step that took it first
pub gone_once : taken 9 1 ([] ∷ (lost 0 (Some 2) ∷ []) ∷ []) 0 ≡ [] ∷ (lost 0 (Some 2) ∷ []) ∷ []
gone_once = refl

-- one point at both places of an execution: what is taken first is a reason of what is taken then,
-- so that a step of its own takes it
abbrev one_point_twice : Constraint
one_point_twice = record { scope = (0, 0) ∷ (1, 0) ∷ []; tuples = (1 ∷ 0 ∷ []) ∷ [] }

pub taken_in_turn : take_in one_point_twice 4 (0, 0) ([] ∷ []) (0 ∷ 1 ∷ [])
    ≡ record { gone = (lost 0 (Some 4) ∷ lost 1 (Some 4) ∷ []) ∷ []; reasons = reason 0 0 (Some 4) ∷ [] }
taken_in_turn = refl

pub in_two_steps : steps_in one_point_twice 4 (0, 0) ([] ∷ []) (2 ∷ 0 ∷ 1 ∷ 3 ∷ []) ≡ (2 ∷ 0 ∷ []) ∷ (1 ∷ 3 ∷ []) ∷ []
in_two_steps = refl

-- one step takes both values, if an earlier step took the first of them
pub in_one_step : steps_in one_point_twice 4 (0, 0) ((lost 0 (Some 2) ∷ []) ∷ []) (0 ∷ 1 ∷ []) ≡ (0 ∷ 1 ∷ []) ∷ []
in_one_step = refl

-- consensus of two after one round
pub consensus_argument : argument_text consensus 1 (remove 0 0 1 ∷ remove 1 1 0 ∷ remove 3 1 1 ∷ remove 4 0 0 ∷ remove 2 0 1 ∷ empty 2 ∷ []) ≡ codes "No decision map after 1 round: 5 steps over 5 of 5 executions.\n\nPoints\n  v0 is p0 saw {p0=0}\n  v1 is p1 saw {p1=1}\n  v2 is p0 saw {p0=0, p1=1}\n  v3 is p1 saw {p0=0, p1=1}\nArgument\n  1. v0 is not 1: in execution 0, {p0=0}, no tuple at (v0) has it. So v0 is 0.\n  2. v1 is not 0: in execution 1, {p1=1}, no tuple at (v1) has it. So v1 is 1.\n  3. v3 is not 1: in execution 3, {p0=0}{p1=1}, (v0, v3) would be (1, 1), but v0 is not 1 [1]. So v3 is 0.\n  4. v2 is not 0: in execution 4, {p1=1}{p0=0}, (v2, v1) would be (0, 0), but v1 is not 0 [2]. So v2 is 1.\n  5. v2 is not 1: in execution 2, {p0=0 p1=1}, (v2, v3) would be (1, 1), but v3 is not 1 [3].\n  v2 has no value left.\nIn all: 5 steps over 5 executions of p0 and p1: 2 of one process, 3 of two processes.\n"
unfolding digits
consensus_argument = refl

-- renaming of two with two names: a symmetric task, whose points are told by ranks, and two cases
pub renaming_argument : argument_text renaming_2_2 1 (branch 0 ∷ remove 3 1 0 ∷ remove 4 0 0 ∷ remove 2 0 1 ∷ empty 1 ∷ remove 3 1 1 ∷ remove 4 0 1 ∷ remove 2 0 0 ∷ empty 1 ∷ []) ≡ codes "No decision map after 1 round: 7 steps over 3 of 5 executions.\n\nPoints\n  v0 is #0 saw {#0=0}\n  v1 is #0 saw {#0=0, #1=0}\n  v2 is #1 saw {#0=0, #1=0}\nArgument\n  1. v0 is 0 or 1.\n    Case v0 = 0\n    2. v2 is not 0: in execution 3, {#0=0}{#1=0}, (v0, v2) would be (1, 0), but v0 is not 1 in this case. So v2 is 1.\n    3. v1 is not 0: in execution 4, {#1=0}{#0=0}, (v1, v0) would be (0, 1), but v0 is not 1 in this case. So v1 is 1.\n    4. v1 is not 1: in execution 2, {#0=0 #1=0}, (v1, v2) would be (1, 0), but v2 is not 0 [2].\n    v1 has no value left.\n    Case v0 = 1\n    5. v2 is not 1: in execution 3, {#0=0}{#1=0}, (v0, v2) would be (0, 1), but v0 is not 0 in this case. So v2 is 0.\n    6. v1 is not 1: in execution 4, {#1=0}{#0=0}, (v1, v0) would be (1, 0), but v0 is not 0 in this case. So v1 is 0.\n    7. v1 is not 0: in execution 2, {#0=0 #1=0}, (v1, v2) would be (0, 1), but v2 is not 1 [5].\n    v1 has no value left.\nIn all: 7 steps over 3 executions of at most two processes: 3 of two processes.\n"
unfolding digits
renaming_argument = refl

-- no round, and steps that take several values
pub path_argument_without_rounds : argument_text (path 3) 0 (remove 0 0 1 ∷ remove 0 0 2 ∷ remove 0 0 3 ∷ remove 1 1 0 ∷ remove 1 1 1 ∷ remove 1 1 2 ∷ remove 2 0 0 ∷ empty 0 ∷ []) ≡ codes "No decision map after 0 rounds: 3 steps over 3 of 3 executions.\n\nPoints\n  v0 is p0=0\n  v1 is p1=0\nArgument\n  1. v0 is not 1, 2 or 3: in execution 0, {p0=0}, no tuple at (v0) has it. So v0 is 0.\n  2. v1 is not 0, 1 or 2: in execution 1, {p1=0}, no tuple at (v1) has it. So v1 is 3.\n  3. v0 is not 0: in execution 2, {p0=0 p1=0}, (v0, v1) would be (0, 0) or (0, 1), but v1 is not 0 or 1 [2].\n  v0 has no value left.\nIn all: 3 steps over 3 executions of p0 and p1: 2 of one process, 1 of two processes.\n"
unfolding digits
path_argument_without_rounds = refl

-- two processes that can't tell who they are: one point stands at both places of an execution, and
-- a step ends before a value for which it would have to cite itself
abbrev alike : Task
alike = record {
  processes = 2;
  symmetric = true;
  least_block = None;
  delta = record { input = one 0 0; tuples = (0 ∷ []) ∷ (1 ∷ []) ∷ (2 ∷ []) ∷ [] }
      ∷ record { input = one 1 0; tuples = (0 ∷ []) ∷ (1 ∷ []) ∷ (2 ∷ []) ∷ [] }
      ∷ record { input = edge 0 0; tuples = (0 ∷ 1 ∷ []) ∷ [] } ∷ [];
  outputs = complex_of (edge 0 1 ∷ one 0 1 ∷ one 0 2 ∷ one 1 0 ∷ one 1 2 ∷ []);
}

pub argument_about_one_point : argument_text alike 0 (remove 2 0 1 ∷ remove 2 0 2 ∷ remove 2 0 0 ∷ empty 0 ∷ []) ≡ codes "No decision map after 0 rounds: 2 steps over 1 of 3 executions.\n\nPoints\n  v0 is #0=0\nArgument\n  1. v0 is not 1 or 2: in execution 2, {#0=0 #1=0}, no tuple at (v0, v0) has it. So v0 is 0.\n  2. v0 is not 0: in execution 2, {#0=0 #1=0}, (v0, v0) would be (0, 1), but v0 is not 1 [1].\n  v0 has no value left.\nIn all: 2 steps over 1 execution of at most two processes: 1 of two processes.\n"
unfolding digits
argument_about_one_point = refl

-- only the points of which the lines speak are told; a line that names no
-- participant of an execution is left out
pub a_line_that_names_nobody : argument_text consensus 0 (remove 0 1 1 ∷ remove 0 0 1 ∷ empty 1 ∷ []) ≡ codes "No decision map after 0 rounds: 1 step over 1 of 3 executions.\n\nPoints\n  v0 is p0=0\n  v1 is p1=1\nArgument\n  1. v0 is not 1: in execution 0, {p0=0}, no tuple at (v0) has it. So v0 is 0.\n  v1 has no value left.\nIn all: 1 step over 1 execution of p0: 1 of one process.\n"
unfolding digits
a_line_that_names_nobody = refl

-- an execution counts once, however many lines speak of it
pub summary_of_two_executions : summary_text false (problem_of consensus 0) (remove 2 0 0 ∷ remove 0 0 1 ∷ remove 2 1 1 ∷ empty 0 ∷ [])
    ≡ codes "In all: 3 steps over 2 executions of p0 and p1: 1 of one process, 1 of two processes.\n"
unfolding digits
summary_of_two_executions = refl

pub summary_without_executions : summary_text false (problem_of consensus 0) (branch 0 ∷ []) ≡ codes "In all: 1 step over 0 executions.\n"
unfolding digits
summary_without_executions = refl
