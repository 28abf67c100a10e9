use Rattle.std.proofs.Common.{[], sym, append-nil, refl}
use Rattle.wf_base.proofs.OfStreams.Lemmas.{went_on, left_off, passed_on}
use Rattle.wf_report_explain.specs.Words.Listing.{executions_text}
use Rattle.wf_report_explain.proofs.OfWords.Pieces.{started}
use Rattle.wf_report_explain.proofs.words.listed.write_executions.Goals as goal

pub returns-in_err-put_executions : goal.returns-in_err-put_executions
returns-in_err-put_executions g c =
    let text = executions_text c.args.task.now c.args.protocol.now.rounds in
    left_off _ _ _ _ text text text [] c.from_residual.result c.from_residual.ensures.0 (started c.args.sink.now c.args.page text c.requires.empty) c.in_err-put_executions.ensures (sym (append-nil text))

pub returns : goal.returns
returns g c =
    let text = executions_text c.args.task.now c.args.protocol.now.rounds in
    let all = went_on _ _ _ _ _ _ text text text [] (started c.args.sink.now c.args.page text c.requires.empty) c.in_ok-put_executions.ensures (sym (append-nil text)) in
    passed_on _ _ _ _ _ [] c.finish.result all refl c.finish.ensures
