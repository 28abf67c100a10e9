use Rattle.std.proofs.Common.{ap}
use Rattle.wf_report_explain.specs.Words.Listing.{executions_text}
use Rattle.wf_run.specs.Run.{HasComplex}
use Rattle.wf_run.proofs.Lemmas.{beyond_build, broken, refused, written}
use Rattle.wf_cli_program.proofs.executions.ExecutionListLongText.write_about.Goals as goal

pub returns-in_err-protocol : goal.returns-in_err-protocol
returns-in_err-protocol g c =
    refused executions_text c.args.task.now c.args.self.now.rounds c.args.sink.now c.args.sink.now _ c.from_residual.result (beyond_build c.args.task.now c.args.self.now.rounds c.in_err-protocol.field-0.0 c.in_err-protocol.ensures) c.from_residual.ensures

pub of-requires : goal.of-requires
of-requires g c = record { few = c.in_ok-protocol.ensures.1 }

pub returns-in_err-table : goal.returns-in_err-table
returns-in_err-table g c =
    refused executions_text c.args.task.now c.args.self.now.rounds c.args.sink.now c.args.sink.now _ c.from_residual-in_err-table.result tt c.from_residual-in_err-table.ensures

pub returns-in_err-page : goal.returns-in_err-page
returns-in_err-page g c =
    refused executions_text c.args.task.now c.args.self.now.rounds c.args.sink.now c.args.sink.now _ c.from_residual-in_err-page.result tt c.from_residual-in_err-page.ensures

pub returns-in_err-write_executions : goal.returns-in_err-write_executions
returns-in_err-write_executions g c =
    let built = c.in_ok-protocol.ensures in
    let has : HasComplex c.args.task.now c.args.self.now.rounds = (c.in_ok-protocol.protocol, built) in
    broken executions_text c.args.task.now c.args.self.now.rounds c.args.sink.now c.write_executions.new.sink (executions_text c.args.task.now c.in_ok-protocol.protocol.rounds) c.in_err-write_executions.field-0.0
    c.from_residual-in_err-write_executions.result has (ap (executions_text c.args.task.now) built.2.rounds_are) c.in_err-write_executions.ensures c.from_residual-in_err-write_executions.ensures

pub returns : goal.returns
returns g c =
    let built = c.in_ok-protocol.ensures in
    let has : HasComplex c.args.task.now c.args.self.now.rounds = (c.in_ok-protocol.protocol, built) in
    written executions_text c.args.task.now c.args.self.now.rounds c.args.sink.now c.write_executions.new.sink (executions_text c.args.task.now c.in_ok-protocol.protocol.rounds) has (ap (executions_text c.args.task.now) built.2.rounds_are)
    c.in_ok-write_executions.ensures
