use Rattle.std.proofs.Common.{◌≡◌, ◌+◌, ◌-◌, ◌*◌, ◌++◌, [], ◌∷◌, map, take, drop, arith, sym, ap, ◌∙◌}
use Rattle.wf_complex.specs.Layout.{laid_on}
use Rattle.wf_complex.specs.Packed.{four_of, packed_on}
use Rattle.wf_complex.proofs.LayoutLemmas.{made_on-more}
use Rattle.wf_complex.proofs.packed.pack_simplex.Goals as goal

pub loop-turn-preserved : goal.loop-turn-preserved
loop-turn-preserved c =
    let numbers = c.args.numbers.now in
    let size = c.args.run.size in
    let more : (c.loop-turn._turn + 1) * c.args.run.size ≡ c.loop-turn._turn * c.args.run.size + c.args.run.size = grind arith in
    let left : c.args.run.count - c.loop-turn._turn ≡ (c.args.run.count - (c.loop-turn._turn + 1)) + 1 = omega (arith, c.loop-turn-test.true) in
    let rest = map (packed_on numbers) (laid_on c.args.run.simplex size (c.loop-turn.place + size) (c.args.run.count - (c.loop-turn._turn + 1))) in
    let long : (c.loop-turn.place + c.args.run.size) - c.loop-turn.place ≡ c.args.run.size = omega arith in
    let part = c.padded_points.ensures.points ∙ ap (λ n. four_of (take n (drop c.loop-turn.place numbers))) long in
    record {
      place = omega (arith, more, c.loop-turn.invariant.place);
      packed =
          (λ i. c.in_ok-push.ensures.items i ++ rest)
          ∙ (λ i. (c.loop-turn.executions.items ++ record { simplex = c.args.run.simplex; points = part i } ∷ []) ++ rest)
          ∙ sym (made_on-more (packed_on numbers) c.args.run.simplex size c.loop-turn.place (c.args.run.count - (c.loop-turn._turn + 1)) (c.args.run.count - c.loop-turn._turn) c.loop-turn.executions.items left)
          ∙ c.loop-turn.invariant.packed;
    }
