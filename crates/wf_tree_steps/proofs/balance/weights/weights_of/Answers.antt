use Rattle.std.proofs.Common.{◌≡◌, ℕ, ◌+◌, ◌%◌, ◌<◌, ◌==◌, All, cond, length, drop, unwrap_or, ap, sym, ◌∙◌, subst, arith}
use Rattle.std.specs.BTreeMap.{get}
use Rattle.std.specs.Ordering.{nat_cmp}
use Rattle.std.proofs.lemmas.List.Elements.{All-from_recursion}
use Rattle.wf_model.proofs.Lemmas.{each_map}
use Rattle.wf_tree_model.specs.Balance.{Multiplier}
use Rattle.wf_tree_steps.proofs.OfBalance.Inputs.{input_is, listed_inside}
use Rattle.wf_tree_steps.specs.declared.balance.multiplier.Multiplier as code
use Rattle.wf_tree_steps.specs.Balance.Keys.{key_with, weight_under}
use Rattle.wf_tree_steps.specs.Balance.Multipliers.{multiplier_seen, multipliers_seen}
use Rattle.wf_tree_steps.proofs.OfBalance.Steps.{added_if, multiplier_at, none_left, one_more, put_small, weight_more}
use Rattle.wf_tree_steps.proofs.OfBalance.MultiplierKeys.{few_others, with_key, without_key}
use Rattle.wf_tree_steps.proofs.balance.weights.weights_of.Goals as goal

pub bounds-simplices-multiplier : goal.bounds-simplices-multiplier
bounds-simplices-multiplier c =
    let x = c.multiplier-item.result in
    let fit = multiplier_at c.args.task.now c.args.modulus c.args.multipliers.now c.multipliers.multiplier-index x c.requires.fit c.multipliers-test.true c.multiplier-item.is in
    listed_inside c.args.task.now c.simplices-simplices.result.now x.simplex (c.simplices-simplices.ensures.simplices ∙ c.inputs.ensures.inputs) fit.listed

pub values_code-values-requires : goal.values_code-values-requires
values_code-values-requires c =
    let x = c.multiplier-item.result in
    let fit = multiplier_at c.args.task.now c.args.modulus c.args.multipliers.now c.multipliers.multiplier-index x c.requires.fit c.multipliers-test.true c.multiplier-item.is in
    let few = few_others c.args.task.now c.args.modulus (multiplier_seen x) c.inputs.ensures.task fit in
    let e = ap length c.as_slice.ensures in
    omega (arith, few, e)

pub multipliers-preserved : goal.multipliers-preserved
multipliers-preserved c =
    let t = c.args.task.now in
    let m = c.args.modulus in
    let x = c.multiplier-item.result in
    let xs = c.args.multipliers.now in
    let i = c.multipliers.multiplier-index in
    let inside = c.multipliers-test.true in
    let fit = multiplier_at t m xs i x c.requires.fit inside c.multiplier-item.is in
    let simplex = c.index-simplices-multiplier.result in
    let input = input_is t c.simplices-simplices.result.now x.simplex simplex (c.simplices-simplices.ensures.simplices ∙ c.inputs.ensures.inputs) fit.listed c.index-simplices-multiplier.is in
    let w = c.multiplier-item.result.weight in
    let with' = with_key t m (multiplier_seen x) simplex c.symmetric-symmetric.result c.as_slice.result.now c.labels_code-whole.result c.values_code-values.result c.key_of-with.result c.inputs.ensures.task fit input c.symmetric-symmetric.ensures c.as_slice.ensures c.labels_code-whole.ensures.same c.values_code-values.ensures.same c.key_of-with.ensures in
    let without' = without_key t m (multiplier_seen x) simplex c.symmetric-symmetric.result c.as_slice.result.now c.labels_code-face.result c.values_code-values.result c.key_of-without.result c.inputs.ensures.task fit input c.symmetric-symmetric.ensures c.as_slice.ensures c.labels_code-face.ensures.same c.values_code-values.ensures.same c.key_of-without.ensures in
    record {
      same = λ q.
          let rest = weight_under t (multipliers_seen (drop (i + 1) xs)) q in
          let old = unwrap_or (get nat_cmp c.multipliers.weights q) 0 in
          let mid = cond (c.key_of-with.result == q) ((old + w) % m) old in
          let one : unwrap_or (get nat_cmp c.put.new.weights q) 0 ≡ mid = c.in_ok-put.ensures q in
          let two = c.in_ok-put-2.ensures q in
          ap (λ n. (n + rest) % m) (two ∙ ap (λ n. cond (c.key_of-without.result == q) ((n + w) % m) n) one)
          ∙ added_if (c.key_of-without.result == q) m mid w rest
          ∙ added_if (c.key_of-with.result == q) m old w (cond (c.key_of-without.result == q) w 0 + rest)
          ∙ ap (λ n. (old + n) % m)
          (grouped (cond (c.key_of-with.result == q) w 0) (cond (c.key_of-without.result == q) w 0) rest
          ∙ ap (λ k. (cond (k == q) w 0 + cond (c.key_of-without.result == q) w 0) + rest) with'
          ∙ ap (λ k. (cond (key_with t (multiplier_seen x) == q) w 0 + cond (k == q) w 0) + rest) without'
          ∙ sym (weight_more t xs i x q inside c.multiplier-item.is))
          ∙ c.multipliers.invariant.same q;
      digits = λ rest. c.multipliers.invariant.digits
          (one_more (λ (y : code.Multiplier). All (λ v. v < 2047) y.others) xs i x inside c.multiplier-item.is (subst (All (λ v. v < 2047)) c.as_slice.ensures c.values_code-values.ensures.digits) rest);
      small = λ q.
          let old = unwrap_or (get nat_cmp c.multipliers.weights q) 0 in
          let mid = cond (c.key_of-with.result == q) ((old + w) % m) old in
          let one : unwrap_or (get nat_cmp c.put.new.weights q) 0 ≡ mid = c.in_ok-put.ensures q in
          let two = c.in_ok-put-2.ensures q in
          subst (λ n. n < m) (sym (two ∙ ap (λ n. cond (c.key_of-without.result == q) ((n + w) % m) n) one))
          (put_small (c.key_of-without.result == q) m mid w c.requires.some (put_small (c.key_of-with.result == q) m old w c.requires.some (c.multipliers.invariant.small q)));
    }
  where
    grouped : (a b r : ℕ) → a + (b + r) ≡ (a + b) + r
    grouped a b r = omega arith

pub returns-clause-digits : goal.returns-clause-digits
returns-clause-digits c =
    let xs = c.args.multipliers.now in
    let P = λ (y : code.Multiplier). All (λ v. v < 2047) y.others in
    let Q = λ (y : Multiplier). All (λ v. v < 2047) y.others in
    All-from_recursion Q (multipliers_seen xs) (each_map Q multiplier_seen xs (c.multipliers.invariant.digits (none_left P xs c.multipliers.multiplier-index (let past = c.multipliers-test.false in omega (arith, past)))))
