use Rattle.std.proofs.Common.{◌∙◌, ap, arith, length, nat_lt}
use Rattle.std.proofs.lemmas.Bool.{lt-ltb}
use Rattle.wf_base.specs.Set.Parts.{part_values}
use Rattle.wf_box.proofs.KeptLemmas.{part_here, part_nowhere}
use Rattle.wf_box.proofs.kept.first_open_byte.Goals as goal

pub returns-then-count-gt1 : goal.returns-then-count-gt1
returns-then-count-gt1 c =
    let size = c.count.ensures.count ∙ ap (λ part. length (part_values part)) c.from.ensures in
    part_here (λ set. nat_lt 1 (length set)) c.args.bytes.now c.loop-i.i (omega arith) c.loop-i.invariant
    (lt-ltb 1 _ (omega (arith, size, c.if-count-gt1.true)))

pub returns : goal.returns
returns c = part_nowhere (λ set. nat_lt 1 (length set)) c.args.bytes.now (λ k lt. c.loop-i.invariant k (omega arith))
