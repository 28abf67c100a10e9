use Rattle.std.proofs.Common.{◌≡◌, ◌-◌, ◌++◌, length, take, drop, sym, ap, subst, ◌∙◌, arith, length-take}
use lib.Seq.{take-add, take-take}
use Rattle.wf_base.specs.Streams.Texts.{Took}
use Rattle.wf_base.proofs.OfStreams.CallChains.{Took-more}
use Rattle.wf_base.proofs.streams.sink.send.Goals as goal

pub loop-written-preserved : goal.loop-written-preserved
loop-written-preserved g c =
    let done = c.loop-written.written in
    let n = c.in-Ok.n in
    let xs = c.args.text.now in
    let fits = c.in-Ok.ensures.bound in
    let most = length-take (length xs - done) (drop done xs) in
    let joined = ap (λ l. take done xs ++ l) (take-take n (length xs - done) (drop done xs) (omega arith)) ∙ sym (take-add done n xs) in
    let none : c.write.new.self.failures ≡ c.loop-written.sink.failures = grind (arith, c.in-Ok.ensures.failures, c.in-Ok.n-is) in
    (omega arith, subst (λ bs. Took c.args.sink.now c.write.new.self bs 0) joined (Took-more _ _ _ _ _ c.loop-written.invariant.1 c.in-Ok.ensures.bytes none))
