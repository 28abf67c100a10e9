use Rattle.std.proofs.Common.{◌∷◌, [], sym, ◌∙◌, arith}
use Rattle.wf_base.proofs.OfStreams.Lemmas.{went_on, stopped, last_put}
use Rattle.wf_report_explain.proofs.OfWords.Pieces.{block_closed, block_left, block_opened, first_failed, first_put, next_process}
use Rattle.wf_report_explain.proofs.words.listed.put_block.Goals as goal

pub returns-in_err-put : goal.returns-in_err-put
returns-in_err-put g c = first_failed _ _ _ _ _ (123 ∷ []) (block_left 0 c.args.members.now) c.from_residual.result c.from_residual.ensures.0 c.in_err-put.ensures (block_opened c.args.members.now (sym c.is_empty.ensures ∙ c.if-is_empty.false))

pub loop-place-init : goal.loop-place-init
loop-place-init g c = first_put _ _ _ _ _ (123 ∷ []) (block_left 0 c.args.members.now) c.in_ok-put.ensures (block_opened c.args.members.now (sym c.is_empty.ensures ∙ c.if-is_empty.false))

pub returns-in_err-put_process : goal.returns-in_err-put_process
returns-in_err-put_process g c =
    stopped _ _ _ _ _ _ _ _ _ _ c.from_residual-in_err-put_process.result c.from_residual-in_err-put_process.ensures.0 c.loop-place.invariant c.in_err-put_process.ensures
    (next_process c.args.members.now c.loop-place.place c.loop-place-test.true)

pub loop-place-preserved : goal.loop-place-preserved
loop-place-preserved g c =
    went_on _ _ _ _ _ _ _ _ _ _ c.loop-place.invariant c.in_ok-put_process.ensures
    (next_process c.args.members.now c.loop-place.place c.loop-place-test.true)

pub returns : goal.returns
returns g c = last_put _ _ _ _ _ _ _ (125 ∷ []) _ c.put-2.result c.loop-place.invariant c.put-2.ensures (block_closed c.args.members.now c.loop-place.place (omega (arith, c.loop-place-test.false)))
