use Rattle.std.proofs.Common.{◌≡◌, ◌+◌, ◌-◌, ◌*◌, ◌++◌, arith, sym, ap, ◌∙◌, append-nil}
use Rattle.wf_complex.specs.Layout.{laid_on}
use Rattle.wf_complex.proofs.LayoutLemmas.{laid_on-more}
use Rattle.wf_complex.proofs.layout.lay_on.Goals as goal

pub loop-turn-preserved : goal.loop-turn-preserved
loop-turn-preserved c =
    let k = c.args.simplex in
    let more : (c.loop-turn._turn + 1) * c.args.size ≡ c.loop-turn._turn * c.args.size + c.args.size = grind arith in
    let left : c.args.count - c.loop-turn._turn ≡ (c.args.count - (c.loop-turn._turn + 1)) + 1 = omega (arith, c.loop-turn-test.true) in
    record {
      place = omega (arith, more, c.loop-turn.invariant.place, c.from-place.ensures);
      laid =
          (λ i. c.in_ok-push.ensures.items i ++ laid_on c.args.simplex c.args.size (c.loop-turn.place + c.from-place.ensures i) (c.args.count - (c.loop-turn._turn + 1)))
          ∙ sym (laid_on-more c.args.simplex c.args.size c.loop-turn.place (c.args.count - (c.loop-turn._turn + 1)) (c.args.count - c.loop-turn._turn) c.loop-turn.executions.items left)
          ∙ c.loop-turn.invariant.laid;
    }

pub returns : goal.returns
returns c =
    let none : c.args.count - c.loop-turn._turn ≡ 0 = omega (arith, c.loop-turn-test.false) in
    sym (append-nil c.loop-turn.executions.items)
    ∙ ap (λ m. c.loop-turn.executions.items ++ laid_on c.args.simplex c.args.size c.loop-turn.place m) (sym none)
    ∙ c.loop-turn.invariant.laid
