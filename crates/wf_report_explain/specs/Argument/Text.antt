-- An argument in words that a task has no decision map after some rounds: the text of a
-- refutation's lines, for people.
use Rattle.std.specs.Prelude.{ℕ, zero, suc, ◌==◌, ◌&&◌, Bool, true, false, not, List, [], ◌∷◌, ◌++◌, ◌+◌, map, filter, flat_map, length, count_by, Option, Some, None, codes, decimal, if◌then◌else◌}
use Rattle.std.specs.List.{enumerate_from, list_any, range_with_len}
use Rattle.wf_model.specs.Limits.{most_processes}
use Rattle.wf_model.specs.Lists.{below, has}
use Rattle.wf_model.specs.Simplex.{processes_of}
use Rattle.wf_model.specs.Task.{Task, Tuple}
use Rattle.wf_model.specs.View.{View}
use Rattle.wf_model.specs.Points.{points}
use Rattle.wf_model.specs.PointsText.{view_text}
use Rattle.wf_model.specs.Problem.{Participant, Problem, problem_of, constraint_at}
use Rattle.wf_model.specs.Check.{place_of}
use Rattle.wf_model.specs.Refutation.{Line, remove, empty, branch, found}
use Rattle.wf_report_explain.specs.Words.Text.{NamedExecutions, counted, execution_at, indented, name, named_executions, needed_text, points_in, rest_text, values_text}
use Rattle.wf_report_explain.specs.Words.Summary.{about_text}
use Rattle.wf_report_explain.specs.declared.words.summary.SizeCount.{SizeCount}
use Rattle.wf_report_explain.specs.declared.argument.reasons.Reason.{Reason}
use Rattle.wf_report_explain.specs.Argument.Parts.{Part, takes, closes, splits, parts_of}
use Rattle.wf_report_explain.specs.Argument.ArgumentState.{Case, ArgumentState, start, left_at, needed, occurs, take_in, steps_in, cases_at, after_step, after}

-- ---- a step that takes values

-- the step that took the value
abbrev pub origin_text : Option ℕ → List ℕ
origin_text None = codes " in this case"
origin_text (Some n) = codes " [" ++ (decimal n ++ codes "]")

-- what stands before a reason: the point, unless the reason before is of the same one
abbrev pub lead_text : Option ℕ → ℕ → List ℕ
lead_text None v = codes ", but " ++ (name v ++ codes " is not ")
lead_text (Some u) v = if u == v then codes ", " else codes ", and " ++ (name v ++ codes " is not ")

-- whether two values were lost by one step, or both in this case
abbrev pub same_origin : Option ℕ → Option ℕ → Bool
same_origin None None = true
same_origin None (Some n) = false
same_origin (Some m) None = false
same_origin (Some m) (Some n) = m == n

-- the values of the reasons behind one, as long as they are of its point and its step
abbrev pub values_beside : Reason → List Reason → List ℕ
values_beside x [] = []
values_beside x (y ∷ ys) = if (x.point == y.point) && same_origin x.loss.step y.loss.step then y.loss.value ∷ values_beside x ys else []

-- the reasons, of which so many are told already
abbrev pub reasons_from : Option ℕ → ℕ → List Reason → List ℕ
reasons_from before told [] = []
reasons_from before (suc told) (x ∷ xs) = reasons_from before told xs
reasons_from before zero (x ∷ xs) =
    let others = values_beside x xs in
    lead_text before x.point ++ (values_text (x.loss.value ∷ others) ++ (origin_text x.loss.step ++ reasons_from (Some x.point) (length others) xs))

abbrev pub reasons_text : List Reason → List ℕ
reasons_text reasons = reasons_from None 0 reasons

-- the number of a step, and its point
abbrev pub step_text : ℕ → ℕ → List ℕ
step_text n v = decimal n ++ (codes ". " ++ name v)

-- what a step says of the point, and where
abbrev pub claim_text : ℕ → ℕ → List ℕ → ℕ → List ℕ
claim_text n v values e =
    step_text n v ++ (codes " is not " ++ (values_text values ++ (codes ": in execution " ++ (decimal e ++ codes ", "))))

-- the tuples that would be needed at these points, and why none of them can be decided
abbrev pub grounds_text : List ℕ → List Tuple → List Reason → List ℕ
grounds_text points tuples reasons = needed_text points tuples ++ (reasons_text reasons ++ codes ".")

-- the values that are left to a point, of those that tuples have at its place
abbrev pub left_there : List Tuple → ℕ → List ℕ → List ℕ
left_there tuples place left = filter (occurs tuples place) left

abbrev pub taking_text : Problem → NamedExecutions → ArgumentState → ℕ → List ℕ → ℕ × ℕ → List ℕ
taking_text p es s e values at =
    let k = constraint_at p e in let done = take_in k s.number at s.gone values in
    indented s.depth (claim_text s.number at.1 values e ++ (execution_at es e ++ (codes ", "
    ++ (grounds_text (points_in k) (flat_map (needed k.tuples at.0) values) done.reasons ++ rest_text at.1 (left_there k.tuples at.0 (left_at p.values done.gone at.1))))))

-- ---- the parts

-- a case that begins, if one does
abbrev pub case_text : List Case → List ℕ
case_text [] = []
case_text (x ∷ later) = indented x.depth (codes "Case " ++ (name x.point ++ (codes " = " ++ decimal x.value)))

-- steps one after another, each with the values that it takes
abbrev pub steps_text : Problem → NamedExecutions → ArgumentState → ℕ → ℕ × ℕ → List (List ℕ) → List ℕ
steps_text p es s e at [] = []
steps_text p es s e at (values ∷ steps) =
    taking_text p es s e values at ++ steps_text p es (after_step (constraint_at p e) at s values) e at steps

abbrev pub told_taking : Problem → NamedExecutions → ArgumentState → ℕ → List ℕ → Option (ℕ × ℕ) → List ℕ
told_taking p es s e values None = []
told_taking p es s e values (Some at) = steps_text p es s e at (steps_in (constraint_at p e) s.number at s.gone values)

abbrev pub end_text : ArgumentState → ℕ → List ℕ
end_text s v = indented s.depth (name v ++ codes " has no value left.") ++ case_text s.later

abbrev pub split_text : List ℕ → ArgumentState → ℕ → List ℕ
split_text values s v =
    indented s.depth (step_text s.number v ++ (codes " is " ++ (values_text (left_at values s.gone v) ++ codes ".")))
    ++ case_text (cases_at values s v ++ s.later)

abbrev pub part_text : Problem → NamedExecutions → ArgumentState → Part → List ℕ
part_text p es s (takes e c values) = told_taking p es s e values (place_of 0 c (constraint_at p e).scope)
part_text p es s (closes v) = end_text s v
part_text p es s (splits v) = split_text p.values s v

-- the parts from a state on; what comes after all is said is left out
abbrev pub parts_text : Problem → NamedExecutions → Option ArgumentState → List Part → List ℕ
parts_text p es None parts = []
parts_text p es (Some s) [] = []
parts_text p es (Some s) (part ∷ parts) = part_text p es s part ++ parts_text p es (after p s part) parts

-- ---- the whole

abbrev pub is_in : ℕ → Line → Bool
is_in e (remove f c a) = e == f
is_in e (empty v) = false
is_in e (branch v) = false
is_in e found = false

-- whether a line speaks of a point
abbrev pub names : Problem → ℕ → Line → Bool
names p v (remove e c a) = has (points_in (constraint_at p e)) v
names p v (empty w) = v == w
names p v (branch w) = v == w
names p v found = false

-- how many of the executions are used
abbrev pub used_count : Problem → List Line → ℕ
used_count p ls = count_by (λ e. list_any (is_in e) ls) (below (length p.constraints))

-- how many steps a part makes that takes values
abbrev pub taking_steps : Problem → ArgumentState → ℕ → List ℕ → Option (ℕ × ℕ) → ℕ
taking_steps p s e values None = 0
taking_steps p s e values (Some at) = length (steps_in (constraint_at p e) s.number at s.gone values)

abbrev pub part_steps : Problem → ArgumentState → Part → ℕ
part_steps p s (takes e c values) = taking_steps p s e values (place_of 0 c (constraint_at p e).scope)
part_steps p s (closes v) = 0
part_steps p s (splits v) = 1

-- how many steps the parts make from a state on
abbrev pub steps_made : Problem → Option ArgumentState → List Part → ℕ
steps_made p None parts = 0
steps_made p (Some s) [] = 0
steps_made p (Some s) (part ∷ parts) = part_steps p s part + steps_made p (after p s part) parts

abbrev pub title_text : Problem → ℕ → List Line → List ℕ
title_text p r ls =
    codes "No decision map after " ++ (counted r (codes "round") ++ (codes ": " ++ (counted (steps_made p (Some (start p)) (parts_of ls)) (codes "step")
    ++ (codes " over " ++ (decimal (used_count p ls) ++ (codes " of " ++ (counted (length p.constraints) (codes "execution") ++ codes ".\n\n")))))))

-- ---- the summary

-- the participants of each execution of which a line speaks, each execution once
abbrev pub used_scopes : Problem → List Line → List (List Participant)
used_scopes p ls = map (λ e. (constraint_at p e).scope) (filter (λ e. list_any (is_in e) ls) (below (length p.constraints)))

-- how many of these executions have so many participants
abbrev pub count_of_size : List (List Participant) → ℕ → ℕ
count_of_size scopes n = count_by (λ scope. length scope == n) scopes

abbrev pub is_some_count : SizeCount → Bool
is_some_count x = not (x.count == 0)

-- that of each size which occurs
abbrev pub sizes_of : List (List Participant) → List SizeCount
sizes_of scopes = filter is_some_count (map (λ n. record { size = n; count = count_of_size scopes n }) (range_with_len 1 most_processes))

-- whether a process takes part in one of these executions
abbrev pub takes_part : List (List Participant) → ℕ → Bool
takes_part scopes c = list_any (λ scope. has (processes_of scope) c) scopes

-- those who do
abbrev pub participants_of : List (List Participant) → List ℕ
participants_of scopes = filter (takes_part scopes) (below most_processes)

-- In all: 3 steps over 3 executions of p0, p1 and p2: 1 of one process, 2 of three processes.
abbrev pub summary_of : Bool → ℕ → ℕ → List (List Participant) → List ℕ
summary_of ranks steps executions scopes =
    codes "In all: " ++ (counted steps (codes "step") ++ (codes " over " ++ (counted executions (codes "execution")
    ++ (about_text ranks (participants_of scopes) (sizes_of scopes) ++ codes ".\n"))))

abbrev pub summary_text : Bool → Problem → List Line → List ℕ
summary_text ranks p ls = summary_of ranks (steps_made p (Some (start p)) (parts_of ls)) (used_count p ls) (used_scopes p ls)

-- ---- the argument

-- what a point is
abbrev pub point_text : Bool → ℕ × View → List ℕ
point_text ranks at = indented 0 (name at.0 ++ (codes " is " ++ view_text ranks at.1))

abbrev pub used_points : Problem → List Line → List View → List (ℕ × View)
used_points p ls views = filter (λ at. list_any (names p at.0) ls) (enumerate_from 0 views)

-- the title, the points, the parts and the summary
abbrev pub argument_text : Task → ℕ → List Line → List ℕ
argument_text t r ls =
    let p = problem_of t r in
    title_text p r ls
    ++ (codes "Points\n" ++ (flat_map (point_text t.symmetric) (used_points p ls (points t r))
    ++ (codes "Argument\n" ++ (parts_text p (named_executions t r) (Some (start p)) (parts_of ls) ++ summary_text t.symmetric p ls))))
