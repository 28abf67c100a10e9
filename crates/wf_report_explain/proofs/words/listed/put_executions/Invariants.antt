use Rattle.std.proofs.Common.{flat_map, length}
use Rattle.wf_base.proofs.OfStreams.Lemmas.{IsPut}
use Rattle.wf_model.specs.Execution.{executions}
use Rattle.wf_model.specs.Problem.{problem_of}
use Rattle.wf_report_explain.specs.Words.Listing.{execution_line, executions_text}
use Rattle.wf_report_explain.proofs.OfWords.Pieces.{numbers_left}
use Rattle.wf_report_explain.proofs.words.listed.put_executions.Given as goal

abbrev pub invariant-loop-execution : goal.invariant-loop-execution
invariant-loop-execution g l =
    IsPut l.initial.sink l.initial.page l.sink l.page (executions_text l.subject.task.now l.subject.protocol.now.rounds)
    (flat_map (execution_line (problem_of l.subject.task.now l.subject.protocol.now.rounds) (executions l.subject.task.now l.subject.protocol.now.rounds)) (numbers_left l.execution (length (executions l.subject.task.now l.subject.protocol.now.rounds))))
