use Rattle.std.proofs.Common.{◌++◌, slice_get, string_bytes, ap, ◌∙◌}
use Rattle.std.proofs.lemmas.Result.{on_ok_weaker}
use Rattle.wf_model.specs.Execution.{executions}
use Rattle.wf_report_explain.specs.Words.Text.{argument_names, execution_text}
use Rattle.wf_report_explain.proofs.words.executions.Executions.put.Goals as goal

pub returns : goal.returns
returns c =
    let t = c.args.task.now in let r = c.args.protocol.now.rounds in
    on_ok_weaker c.put_words.result (λ told. told
    ∙ ap (λ xs. string_bytes c.args.text.now ++ xs)
    (c.find.ensures.text (argument_names c.symmetric.result) ∙ ap (λ ranks. execution_text (argument_names ranks) (slice_get (executions t r) c.args.execution)) c.symmetric.ensures)) c.put_words.ensures
