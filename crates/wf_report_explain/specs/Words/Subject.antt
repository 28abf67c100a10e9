-- What an argument is about.
use Rattle.std.specs.Prelude.{◌≡◌}
use Rattle.wf_model.specs.Problem.{Problem, problem_of}
use Rattle.wf_complex.specs.Protocol.{IsProtocol}
use Rattle.wf_report_explain.specs.Words.Table.{table_of}
use Rattle.wf_report_explain.specs.Words.Text.{NamedExecutions, named_executions}
use Rattle.wf_report_explain.specs.declared.words.subject.Subject.{Subject}

-- the protocol complex and the table are those of the task
pub record IsMatched (x : Subject) : Type 0 where
  pub protocol : IsProtocol x.task.now x.protocol.now.rounds x.protocol.now
  pub table : x.executions.now ≡ table_of x.task.now x.protocol.now.rounds

abbrev pub problem_in : Subject → Problem
problem_in x = problem_of x.task.now x.protocol.now.rounds

abbrev pub executions_in : Subject → NamedExecutions
executions_in x = named_executions x.task.now x.protocol.now.rounds
