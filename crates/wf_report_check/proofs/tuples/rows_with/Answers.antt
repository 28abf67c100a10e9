use Rattle.std.proofs.Common.{◌<◌, ◌++◌, ◌∷◌, [], cond, length, take, ap, sym, ◌∙◌, arith}
use Rattle.std.specs.Prelude.{filter}
use Rattle.std.proofs.lemmas.List.{take_all}
use Rattle.wf_model.specs.Task.{Tuple}
use Rattle.wf_model.specs.Box.{has_at}
use Rattle.wf_report_check.proofs.GroupLemmas.{one_tuple_more}
use Rattle.wf_report_check.proofs.tuples.rows_with.Goals as goal

pub loop-tuple-preserved : goal.loop-tuple-preserved
loop-tuple-preserved c =
    let tuples = c.args.tuples.now in
    let i = c.loop-tuple.tuple-index in
    let x = c.tuple-item.result in
    let lt : i < length tuples = omega arith in
    c.in_ok-push_if.ensures
    ∙ ap (λ g. g ++ cond c.has_at.result (x ∷ []) []) c.loop-tuple.invariant
    ∙ ap (λ b. filter (λ (t : Tuple). has_at t c.args.place c.args.value) (take i tuples) ++ cond b (x ∷ []) []) (c.has_at.ensures ∙ ap (λ (t : Tuple). has_at t c.args.place c.args.value) c.as_slice-values.ensures)
    ∙ sym (one_tuple_more (λ (t : Tuple). has_at t c.args.place c.args.value) tuples i x lt c.tuple-item.is)

pub returns : goal.returns
returns c = c.loop-tuple.invariant ∙ ap (filter (λ t. has_at t c.args.place c.args.value)) (take_all c.loop-tuple.tuple-index c.args.tuples.now (omega arith))
