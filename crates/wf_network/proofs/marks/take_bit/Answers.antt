use Rattle.std.proofs.Common.{◌≡◌, ap, slice_index, arith, ◌/◌, ◌%◌, ◌∙◌}
use Rattle.std.specs.Int.{bit_at, w64}
use Rattle.std.proofs.lemmas.List.{get_or_read}
use Rattle.std.proofs.lemmas.Nat.Bits.{bit_at_clear_same, bit_at_clear_other}
use Rattle.wf_network.proofs.MarkLemmas.{bit_changed, bit_kept}
use Rattle.wf_network.proofs.marks.take_bit.Goals as goal

pub returns-clause-taken : goal.returns-clause-taken
returns-clause-taken c = bit_changed c.args.words.now.items c.args.bit _ 0 c.requires (bit_at_clear_same w64 c.index.result.now (c.args.bit % 64) (omega arith))

pub returns-clause-others : goal.returns-clause-others
returns-clause-others c = λ n other.
    let here : c.index.result.now ≡ slice_index c.args.words.now.items (c.args.bit / 64) = get_or_read c.args.words.now.items (c.args.bit / 64) c.index.result.now (omega (arith, c.requires)) c.index.ensures 0 in
    bit_kept c.args.words.now.items c.args.bit _ n c.requires other
    (λ i low not. bit_at_clear_other w64 c.index.result.now (c.args.bit % 64) (omega arith) i low not ∙ ap (λ w. bit_at w i) here)
