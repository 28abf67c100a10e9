use Rattle.std.proofs.Common.{◌≡◌, ap, slice_index, arith, ◌/◌, ◌%◌, ◌∙◌}
use Rattle.std.specs.Int.{bit_at, w64}
use Rattle.std.proofs.lemmas.List.{get_or_read}
use Rattle.std.proofs.lemmas.Nat.Bits.{bit_at_set_same, bit_at_set_other}
use Rattle.wf_network.proofs.MarkLemmas.{bit_changed, bit_kept}
use Rattle.wf_network.proofs.marks.add_bit.Goals as goal

pub returns-clause-added : goal.returns-clause-added
returns-clause-added c = bit_changed c.args.words.now.items c.args.bit _ 1 c.requires (bit_at_set_same w64 c.index_mut.result.now (c.args.bit % 64) (omega arith))

pub returns-clause-others : goal.returns-clause-others
returns-clause-others c = λ n other.
    let here : c.index_mut.result.now ≡ slice_index c.args.words.now.items (c.args.bit / 64) = get_or_read c.args.words.now.items (c.args.bit / 64) c.index_mut.result.now (omega (arith, c.requires)) c.index_mut.ensures.value 0 in
    bit_kept c.args.words.now.items c.args.bit _ n c.requires other
    (λ i low not. bit_at_set_other w64 c.index_mut.result.now (c.args.bit % 64) (omega arith) i not ∙ ap (λ w. bit_at w i) here)
