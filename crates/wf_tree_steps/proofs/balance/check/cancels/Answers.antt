use Rattle.std.proofs.Common.{◌≡◌, ℕ, ◌+◌, ◌%◌, ◌==◌, ◌≤◌, length, unwrap_or, ap, ap₂, ◌∙◌, arith, add-one}
use Rattle.std.specs.BTreeMap.{get}
use Rattle.std.specs.Ordering.{nat_cmp}
use Rattle.wf_tree_steps.specs.Balance.Keys.{sum_below, weight_at}
use Rattle.wf_tree_steps.proofs.OfBalance.Steps.{at_place, at_whole}
use Rattle.wf_tree_steps.proofs.balance.check.cancels.Goals as goal

pub places-preserved : goal.places-preserved
places-preserved c =
    let weights = λ (q : ℕ). unwrap_or (get nat_cmp c.args.weights.now q) 0 in
    let here = at_place weights c.args.labels c.places.place c.key_of.result c.values_code-others.result c.weight_under.result c.args.tuple.now c.as_slice.result.now c.weight_under.ensures c.key_of.ensures c.values_code-others.ensures.same c.as_slice.ensures in
    let same = c.places.invariant.same in
    let small = c.places.invariant.small in
    record {
      same = rw (add-one) (ap₂ (λ a b. a + b) same (c.from-with.ensures ∙ here));
      small = omega (arith, small, c.from-with.ensures);
    }

pub returns-clause-settled : goal.returns-clause-settled
returns-clause-settled c =
    let weights = λ (q : ℕ). unwrap_or (get nat_cmp c.args.weights.now q) 0 in
    let tuple = c.args.tuple.now in
    let few : length tuple ≤ 4 = (let a = c.size-place-end.ensures in omega (arith, a.count, a.few)) in
    let done : c.places.place ≡ length tuple = (let a = c.size-place-end.ensures.count in omega (arith, a, c.places-test.false, c.places.auto.place-end)) in
    let whole = at_whole weights c.args.labels c.key_of-2.result c.values_code-values.result c.weight_under-without.result tuple c.as_slice-2.result.now few c.weight_under-without.ensures c.key_of-2.ensures c.values_code-values.ensures.same c.as_slice-2.ensures in
    ap₂ (λ a b. a == b)
    (ap₂ (λ a b. a % b) (c.places.invariant.same ∙ ap (sum_below (weight_at weights c.args.labels tuple)) done) c.from.ensures)
    (c.from-2.ensures ∙ ap (λ n. n % c.args.modulus) whole)
