use Rattle.std.proofs.Common.{ap, ◌∙◌}
use Rattle.wf_sat_formula.specs.Dimacs.{question_text}
use Rattle.wf_run.specs.Run.{HasComplex}
use Rattle.wf_run.proofs.Lemmas.{beyond_build, broken, refused, written}
use Rattle.wf_cli_program.proofs.cnf.FormulaTextLongText.write_about.Goals as goal

pub returns-in_err-protocol : goal.returns-in_err-protocol
returns-in_err-protocol g c =
    refused question_text c.args.task.now c.args.self.now.rounds c.args.sink.now c.args.sink.now _ c.from_residual.result (beyond_build c.args.task.now c.args.self.now.rounds c.in_err-protocol.field-0.0 c.in_err-protocol.ensures) c.from_residual.ensures

pub returns-in_err-question : goal.returns-in_err-question
returns-in_err-question g c =
    refused question_text c.args.task.now c.args.self.now.rounds c.args.sink.now c.args.sink.now _ c.from_residual-in_err-question.result tt c.from_residual-in_err-question.ensures

pub returns-in_err-write : goal.returns-in_err-write
returns-in_err-write g c =
    let built = c.in_ok-protocol.ensures in
    let has : HasComplex c.args.task.now c.args.self.now.rounds = (c.in_ok-protocol.protocol, built) in
    broken question_text c.args.task.now c.args.self.now.rounds c.args.sink.now c.write.new.sink c.in_ok-question.question c.in_err-write.field-0.0 c.from_residual-in_err-write.result
    has (c.in_ok-question.ensures ∙ ap (question_text c.args.task.now) built.2.rounds_are) c.in_err-write.ensures c.from_residual-in_err-write.ensures

pub returns : goal.returns
returns g c =
    let built = c.in_ok-protocol.ensures in
    let has : HasComplex c.args.task.now c.args.self.now.rounds = (c.in_ok-protocol.protocol, built) in
    written question_text c.args.task.now c.args.self.now.rounds c.args.sink.now c.write.new.sink c.in_ok-question.question has (c.in_ok-question.ensures ∙ ap (question_text c.args.task.now) built.2.rounds_are) c.in_ok-write.ensures
