use Rattle.std.proofs.Common.{ℕ, ◌<◌, ◌%◌, map, unwrap_or, vec_items, sym, ap, ◌∙◌, subst, arith}
use Rattle.std.specs.BTreeMap.{get}
use Rattle.std.specs.Ordering.{nat_cmp}
use Rattle.std.proofs.lemmas.Result.{err_from_is_err_and}
use Rattle.wf_tree_model.specs.Balance.{IsBalance, weight_of_vertices}
use Rattle.wf_tree_refine.specs.AtHand.{at_hand}
use Rattle.wf_tree_steps.specs.Balance.Judge.{Judges, balance_fault, multipliers_fault}
use Rattle.wf_tree_steps.specs.Balance.Multipliers.{multipliers_seen}
use Rattle.wf_tree_steps.proofs.OfBalance.Answer.{all_fit, judged_rows}
use Rattle.wf_tree_steps.proofs.OfBalance.Faults.{exact}
use Rattle.wf_tree_steps.proofs.OfBalance.SameFaults.{of_multiplier, of_sum}
use Rattle.wf_tree_steps.proofs.OfBalance.Steps.{accepted, handed}
use Rattle.wf_tree_steps.proofs.balance.check.is_balance.Goals as goal

pub returns-in_err-judge_multipliers-clause-judged : goal.returns-in_err-judge_multipliers-clause-judged
returns-in_err-judge_multipliers-clause-judged c =
    let t = c.args.task.now in
    let rows = map vec_items c.args.rows.now in
    let m = c.args.balance.now.modulus in
    let sum = c.args.balance.now.sum in
    let xs = multipliers_seen c.args.balance.now.multipliers.items in
    let ys = multipliers_seen c.as_slice-multipliers.result.now in
    let same = ap multipliers_seen c.as_slice-multipliers.ensures.value in
    let some : 0 < sum = (let a = c.if-balance-eq0.false in omega (arith, a)) in
    let reduced : sum < m = (let a = c.if-balance-modulus.false in omega (arith, a)) in
    let e = c.in_err-judge_multipliers.field-0.0 in
    let p = err_from_is_err_and c.from_residual.result c.from_residual.ensures.1 in
    rw (p.1, p.2)
    (handed e (multipliers_fault t m 0 ys) (balance_fault (at_hand t rows) m sum xs) c.in_err-judge_multipliers.ensures
    (λ h. of_multiplier t rows c.requires.each m sum xs some reduced e (ap (multipliers_fault t m 0) (sym same) ∙ h)))

pub sum_of_vertices-requires-clause-fit : goal.sum_of_vertices-requires-clause-fit
sum_of_vertices-requires-clause-fit c = all_fit c.args.task.now c.args.balance.now.modulus (multipliers_seen c.as_slice-multipliers.result.now) c.in_ok-judge_multipliers.ensures

pub returns-then-sum_of_vertices-balance-clause-judged : goal.returns-then-sum_of_vertices-balance-clause-judged
returns-then-sum_of_vertices-balance-clause-judged c =
    let t = c.args.task.now in
    let rows = map vec_items c.args.rows.now in
    let m = c.args.balance.now.modulus in
    let sum = c.args.balance.now.sum in
    let xs = multipliers_seen c.args.balance.now.multipliers.items in
    let same = ap multipliers_seen c.as_slice-multipliers.ensures.value in
    let some : 0 < sum = (let a = c.if-balance-eq0.false in omega (arith, a)) in
    let reduced : sum < m = (let a = c.if-balance-modulus.false in omega (arith, a)) in
    of_sum t rows c.requires.each m sum xs some reduced
    (ap (multipliers_fault t m 0) (sym same) ∙ c.in_ok-judge_multipliers.ensures)
    (λ h. c.if-sum_of_vertices-balance.true (c.sum_of_vertices.ensures ∙ ap (λ l. weight_of_vertices t l % m) same ∙ h))

pub weights_of-requires-clause-fit : goal.weights_of-requires-clause-fit
weights_of-requires-clause-fit c = all_fit c.args.task.now c.args.balance.now.modulus (multipliers_seen c.as_slice-multipliers.result.now) c.in_ok-judge_multipliers.ensures

pub returns-clause-judged : goal.returns-clause-judged
returns-clause-judged c =
    let t = c.args.task.now in
    let rows = map vec_items c.args.rows.now in
    let m = c.args.balance.now.modulus in
    let sum = c.args.balance.now.sum in
    let ys = multipliers_seen c.as_slice-multipliers.result.now in
    let same = ap multipliers_seen c.as_slice-multipliers.ensures.value in
    let some : 0 < sum = (let a = c.if-balance-eq0.false in omega (arith, a)) in
    let reduced : sum < m = (let a = c.if-balance-modulus.false in omega (arith, a)) in
    let weights = λ (q : ℕ). unwrap_or (get nat_cmp c.in_ok-weights.weights q) 0 in
    subst (λ l. Judges c.judge_rows.result (balance_fault (at_hand t rows) m sum l)) same
    (judged_rows t rows m sum ys weights c.judge_rows.result c.processes.ensures.task c.requires some reduced c.in_ok-judge_multipliers.ensures
    (sym c.sum_of_vertices.ensures ∙ c.if-sum_of_vertices-balance.false) c.in_ok-weights.ensures.weights c.in_ok-weights.ensures.digits c.judge_rows.ensures)

pub returns-clause-balance : goal.returns-clause-balance
returns-clause-balance c =
    let t = c.args.task.now in
    let rows = map vec_items c.args.rows.now in
    let m = c.args.balance.now.modulus in
    let sum = c.args.balance.now.sum in
    let xs = multipliers_seen c.args.balance.now.multipliers.items in
    accepted c.judge_rows.result (balance_fault (at_hand t rows) m sum xs) (IsBalance (at_hand t rows) m sum xs) (returns-clause-judged c) (exact (at_hand t rows) m sum xs).0
