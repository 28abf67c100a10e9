use Rattle.std.proofs.Common.{◌+◌, get_or, drop, arith, sym, ap, ◌∙◌}
use Rattle.std.proofs.lemmas.List.{drop_all, drop_more}
use Rattle.std.specs.Int.Bits.{bit_or, or_zero_r}
use Rattle.wf_complex.specs.Table.{process_bits_at}
use Rattle.wf_model.proofs.Lemmas.{or_assoc}
use Rattle.wf_complex.proofs.views.process_bits_seen.Goals as goal

pub loop-id-preserved : goal.loop-id-preserved
loop-id-preserved c =
    let id = get_or c.args.ids.now c.loop-id.id-index 0 in
    or_assoc c.loop-id.all (get_or c.args.bits.now id 0) (process_bits_at c.args.bits.now (drop (c.loop-id.id-index + 1) c.args.ids.now))
    ∙ ap (λ ids. bit_or c.loop-id.all (process_bits_at c.args.bits.now ids)) (sym (drop_more c.args.ids.now c.loop-id.id-index 0 c.loop-id-test.true))
    ∙ c.loop-id.invariant

pub returns : goal.returns
returns c =
    sym (or_zero_r c.loop-id.all)
    ∙ ap (λ ids. bit_or c.loop-id.all (process_bits_at c.args.bits.now ids)) (sym (drop_all c.loop-id.id-index c.args.ids.now (omega arith)))
    ∙ c.loop-id.invariant
