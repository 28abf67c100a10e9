use Rattle.std.proofs.Common.{arith, length, nat_lt}
use Rattle.std.proofs.lemmas.Bool.{lt-ltb}
use Rattle.wf_box.proofs.KeptLemmas.{part_here, part_nowhere}
use Rattle.wf_box.proofs.kept.first_open_part.Goals as goal

pub returns-then-count-gt1 : goal.returns-then-count-gt1
returns-then-count-gt1 c =
    part_here (λ set. nat_lt 1 (length set)) c.args.parts.now c.loop-i.i (omega arith) c.loop-i.invariant
    (lt-ltb 1 _ (omega (arith, c.count.ensures.count, c.if-count-gt1.true)))

pub returns : goal.returns
returns c = part_nowhere (λ set. nat_lt 1 (length set)) c.args.parts.now (λ k lt. c.loop-i.invariant k (omega arith))
