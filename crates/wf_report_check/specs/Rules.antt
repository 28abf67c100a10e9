-- What lines are judged by, and who takes part in an execution.
use Rattle.std.specs.Prelude.{◌≡◌, ℕ, ◌<◌, ◌≤◌, All, List, length, Option, Some, None}
use Rattle.wf_model.specs.Problem.{Problem, problem_of}
use Rattle.wf_model.specs.Box.{Box}
use Rattle.wf_model.specs.Check.{Verdict, fault, no_such}
use Rattle.wf_complex.specs.Protocol.{IsProtocol}
use Rattle.wf_report_check.specs.Places.{tuples_of, unless_supported}
use Rattle.wf_report_check.specs.declared.judge.LineContext.{LineContext}
use Rattle.wf_report_check.specs.declared.judge.LinePlace.{LinePlace}

-- the complex and the tuples are those of the task
pub record AreMatched (x : LineContext) : Type 0 where
  pub protocol : IsProtocol x.task.now x.protocol.now.rounds x.protocol.now
  pub supports : x.checker.now ≡ tuples_of x.task.now.delta

abbrev pub problem_in : LineContext → Problem
problem_in x = problem_of x.task.now x.protocol.now.rounds

-- the place is one of at most four, and the points are among so many
pub record IsInside (count : ℕ) (x : LinePlace) : Type 0 where
  pub place : x.place < length x.points.now
  pub few : length x.points.now ≤ 4
  pub points : All (λ v. v < count) x.points.now

-- what line k says of the first box, where it takes a value from this process
abbrev pub verdict_at : Option LinePlace → ℕ → ℕ → Box → List Box → Verdict
verdict_at None k a box boxes = fault (no_such k)
verdict_at (Some x) k a box boxes = unless_supported x.support.now x.points.now x.place a k box boxes
