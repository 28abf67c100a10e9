-- The executions of a task in words, each with its points, for people.
use Rattle.std.specs.Prelude.{ℕ, zero, suc, List, ◌++◌, flat_map, length, slice_get, codes, decimal}
use Rattle.wf_model.specs.Lists.{below}
use Rattle.wf_model.specs.Task.{Task}
use Rattle.wf_model.specs.Execution.{Execution, executions}
use Rattle.wf_model.specs.Problem.{Problem, problem_of, constraint_at}
use Rattle.wf_report_explain.specs.Words.Text.{points_in, execution_text, plain_names}

-- a number after a space
abbrev pub spaced : ℕ → List ℕ
spaced n = codes " " ++ decimal n

-- an execution's number, the execution in words, and its points by ascending process
abbrev pub execution_line : Problem → List Execution → ℕ → List ℕ
execution_line p es e =
    (decimal e ++ codes " ") ++ (execution_text plain_names (slice_get es e) ++ (codes " :" ++ (flat_map spaced (points_in (constraint_at p e)) ++ codes "\n")))

-- a line for each execution
abbrev pub executions_text : Task → ℕ → List ℕ
executions_text t r = flat_map (execution_line (problem_of t r) (executions t r)) (below (length (executions t r)))

-- what stands before the number of a process in a block
abbrev pub before_process : ℕ → List ℕ
before_process zero = codes "p"
before_process (suc place) = codes " p"
