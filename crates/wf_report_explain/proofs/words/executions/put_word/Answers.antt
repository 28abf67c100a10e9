use Rattle.std.proofs.Common.{◌++◌, ap, sym, ◌∙◌, append-nil, string_bytes, arith}
use Rattle.wf_report_explain.specs.Words.Text.{block_text, participant_text}
use Rattle.wf_report_explain.proofs.OfWords.ExecutionPlaces.{blocks_text, one_more_block}
use Rattle.wf_report_explain.proofs.words.executions.put_word.Goals as goal

pub loop-block-init : goal.loop-block-init
loop-block-init c = sym (append-nil (string_bytes c.args.text.now))

pub loop-block-preserved : goal.loop-block-preserved
loop-block-preserved c =
    let name = participant_text c.args.ranks c.args.with_inputs in
    one_more_block name c.args.all.now c.args.word.now c.loop-block.block (string_bytes c.args.text.now) (string_bytes c.loop-block.text) (string_bytes c.put_block.new.text) c.loop-block.invariant
    (c.in_ok-put_block.ensures ∙ ap (λ members. string_bytes c.loop-block.text ++ block_text name members) (c.as_slice.ensures ∙ c.block_of-members.ensures.members))

pub returns : goal.returns
returns c =
    c.loop-block.invariant
    ∙ ap (λ n. string_bytes c.args.text.now ++ blocks_text (participant_text c.args.ranks c.args.with_inputs) c.args.all.now c.args.word.now n)
    (omega (arith, c.size-block-end.ensures.count, c.loop-block.auto.block-end, c.loop-block-test.false, c.requires))
