use Rattle.std.proofs.Common.{◌≡◌, length, sym, ◌∙◌, arith}
use Rattle.wf_model.specs.Execution.{executions}
use Rattle.wf_complex.specs.Layout.{execution_total}
use Rattle.wf_complex.proofs.Lemmas.{length-executions}
use Rattle.wf_report_explain.proofs.words.executions.Executions.of.Goals as goal

pub spans_of-requires-clause-few : goal.spans_of-requires-clause-few
spans_of-requires-clause-few c =
    let e : execution_total c.first_block-first_block.result c.args.rounds c.simplices.result.now ≡ length (executions c.args.task.now c.args.rounds) =
    (λ i. execution_total (c.first_block-first_block.ensures.first_block i) c.args.rounds ((c.simplices.ensures.simplices ∙ c.inputs.ensures.inputs) i)) ∙ sym (length-executions c.args.task.now c.args.rounds) in
    omega (arith, e, c.requires.few)
