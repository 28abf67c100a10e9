use Rattle.std.proofs.Common.{◌≡◌, ◌+◌, ◌≤◌, ℕ, All, List, Some, cond, drop, unwrap_or, sym, ap, ◌∙◌}
use Rattle.std.specs.BTreeMap.{get}
use Rattle.std.specs.Ordering.{nat_cmp}
use Rattle.wf_tree_steps.specs.declared.balance.fault.BalanceFault.TheVariants.{NotBalanced}
use Rattle.wf_tree_steps.specs.Balance.Judge.{tuples_fault}
use Rattle.wf_tree_steps.specs.Balance.Keys.{is_settled}
use Rattle.wf_tree_steps.proofs.OfBalance.Steps.{first_left, tuple_next}
use Rattle.wf_tree_steps.proofs.balance.check.judge_tuples.Goals as goal

pub returns-then-not-cancels : goal.returns-then-not-cancels
returns-then-not-cancels c = λ test is.
    let weights = λ (q : ℕ). unwrap_or (get nat_cmp c.args.weights.now q) 0 in
    let ys = c.args.tuples.now in
    let s = c.args.simplex in
    let i = c.tuples.place in
    let y = c.index-tuples-place.result in
    let kept = c.tuples.invariant test is in
    let first = first_left (λ (y : List ℕ). All (λ x. x ≤ 255) y → test y ≡ is_settled weights c.args.modulus c.args.labels y) ys i y c.tuples-test.true c.index-tuples-place.is kept.1 in
    let fails = first.0 c.cancels.ensures.small ∙ sym c.cancels.ensures.settled ∙ c.if-not-cancels.true in
    sym kept.0
    ∙ tuple_next test s ys i y c.tuples-test.true c.index-tuples-place.is
    ∙ ap (λ b. cond b (tuples_fault test s (i + 1) (drop (i + 1) ys)) (Some (NotBalanced s i))) fails

pub tuples-preserved : goal.tuples-preserved
tuples-preserved c = λ test is.
    let weights = λ (q : ℕ). unwrap_or (get nat_cmp c.args.weights.now q) 0 in
    let ys = c.args.tuples.now in
    let s = c.args.simplex in
    let i = c.tuples.place in
    let y = c.index-tuples-place.result in
    let kept = c.tuples.invariant test is in
    let first = first_left (λ (y : List ℕ). All (λ x. x ≤ 255) y → test y ≡ is_settled weights c.args.modulus c.args.labels y) ys i y c.tuples-test.true c.index-tuples-place.is kept.1 in
    let passes = first.0 c.cancels.ensures.small ∙ sym c.cancels.ensures.settled ∙ c.if-not-cancels.false in (
      sym (tuple_next test s ys i y c.tuples-test.true c.index-tuples-place.is ∙ ap (λ b. cond b (tuples_fault test s (i + 1) (drop (i + 1) ys)) (Some (NotBalanced s i))) passes)
          ∙ kept.0,
      first.1,
    )
