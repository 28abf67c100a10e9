use Rattle.std.proofs.Common.{◌≡◌, ◌+◌, ◌%◌, ◌<◌, ◌==◌, true, false, cond, length, drop, ap, ap₂, sym, subst, ◌∙◌, arith}
use Rattle.std.proofs.lemmas.Bool.{eq-eqb, ne_eqb}
use Rattle.std.proofs.Math.Nat.{mod-lt}
use Rattle.wf_tree_steps.proofs.OfBalance.Inputs.{input_is, listed_inside}
use Rattle.wf_tree_model.specs.Balance.{input_of, weight_of_vertices}
use Rattle.wf_tree_steps.specs.Balance.Multipliers.{multiplier_seen, multipliers_seen}
use Rattle.wf_tree_steps.proofs.OfBalance.Steps.{added, multiplier_at, vertices_more}
use Rattle.wf_tree_steps.proofs.balance.check.sum_of_vertices.Goals as goal
use Rattle.wf_tree_steps.proofs.balance.check.sum_of_vertices.Goals.{then-colours-eq1, else-colours-eq1}

pub bounds-simplices-multiplier : goal.bounds-simplices-multiplier
bounds-simplices-multiplier c =
    let x = c.multiplier-item.result in
    let fit = multiplier_at c.args.task.now c.args.modulus c.args.multipliers.now c.multipliers.multiplier-index x c.requires.fit c.multipliers-test.true c.multiplier-item.is in
    listed_inside c.args.task.now c.simplices-simplices.result.now x.simplex (c.simplices-simplices.ensures.simplices ∙ c.inputs.ensures.inputs) fit.listed

pub multipliers-preserved : goal.multipliers-preserved
multipliers-preserved c =
    let t = c.args.task.now in
    let m = c.args.modulus in
    let x = c.multiplier-item.result in
    let xs = c.args.multipliers.now in
    let i = c.multipliers.multiplier-index in
    let fit = multiplier_at t m xs i x c.requires.fit c.multipliers-test.true c.multiplier-item.is in
    let input = input_is t c.simplices-simplices.result.now x.simplex c.index-simplices-multiplier.result (c.simplices-simplices.ensures.simplices ∙ c.inputs.ensures.inputs) fit.listed c.index-simplices-multiplier.is in
    let more = vertices_more t xs i x c.multipliers-test.true c.multiplier-item.is in
    let rest = weight_of_vertices t (multipliers_seen (drop (i + 1) xs)) in
    let size : c.colours.result ≡ length (input_of t (multiplier_seen x)) = c.colours.ensures.count ∙ ap length input in
    elim c.if-colours-eq1.branch [
      | then-colours-eq1 w ↦
          let one : (length (input_of t (multiplier_seen x)) == 1) ≡ true = eq-eqb _ _ (sym size ∙ w.if-colours-eq1.true) in
          let is : c.if-colours-eq1.sum ≡ (c.multipliers.sum + x.weight) % m = w.sum-is ∙ ap₂ (λ a k. a % k) (ap₂ (λ a b. a + b) w.from.ensures w.from-then-colours-eq1.ensures) w.from-then-colours-eq1-2.ensures in
          record {
            same = ap (λ n. (n + rest) % m) is ∙ added m c.multipliers.sum x.weight rest ∙ ap (λ n. (c.multipliers.sum + n) % m) (ap (λ b. cond b x.weight 0 + rest) (sym one) ∙ sym more) ∙ c.multipliers.invariant.same;
            small = subst (λ n. n < m) (sym is) (mod-lt (c.multipliers.sum + x.weight) c.requires.some);
          }
      | else-colours-eq1 w ↦
          let other : (length (input_of t (multiplier_seen x)) == 1) ≡ false = ne_eqb _ _ (λ e. w.if-colours-eq1.false (size ∙ e)) in
          let none : rest ≡ 0 + rest = omega arith in
          record {
            same = ap (λ n. (n + rest) % m) w.sum-is ∙ ap (λ n. (c.multipliers.sum + n) % m) (none ∙ ap (λ b. cond b x.weight 0 + rest) (sym other) ∙ sym more) ∙ c.multipliers.invariant.same;
            small = (let h = c.multipliers.invariant.small in let e = w.sum-is in omega (arith, h, e));
          }
    ]
