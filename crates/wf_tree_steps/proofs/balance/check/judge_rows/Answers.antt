use Rattle.std.proofs.Common.{◌+◌, ◌<◌, ◌≤◌, ℕ, drop, get_or, length, map, unwrap_or, vec_items, sym, ap, ◌∙◌, arith}
use Rattle.std.specs.BTreeMap.{get}
use Rattle.std.specs.Ordering.{nat_cmp}
use Rattle.std.proofs.lemmas.List.{drop_all, get_or-map, length-map}
use Rattle.std.proofs.lemmas.Result.{err_from_is_err_and}
use Rattle.wf_model.specs.Task.{Rule, inputs}
use Rattle.wf_task.specs.TaskSeen.{rules_seen}
use Rattle.wf_tree_steps.specs.Balance.Judge.{rules_fault, tuples_fault, unless_fault}
use Rattle.wf_tree_steps.specs.Balance.Keys.{digits_code, labels}
use Rattle.wf_tree_steps.proofs.OfBalance.Inputs.{input_is, seen_long}
use Rattle.wf_tree_steps.proofs.OfBalance.MultiplierKeys.{rule_labels}
use Rattle.wf_tree_steps.proofs.OfBalance.RowSteps.{row_step}
use Rattle.wf_tree_steps.proofs.OfBalance.Steps.{handed}
use Rattle.wf_tree_steps.proofs.balance.check.judge_rows.Goals as goal

pub returns-in_err-judge_tuples : goal.returns-in_err-judge_tuples
returns-in_err-judge_tuples c = λ test is.
    let t = c.args.task.now in
    let rows = map vec_items c.args.rows.now in
    let rules = rules_seen (inputs t) rows in
    let weights = λ (q : ℕ). unwrap_or (get nat_cmp c.args.weights.now q) 0 in
    let n = c.simplices.number in
    let s = c.index-simplices-number.result in
    let ys = c.index-rows-number.result.items in
    let zs = c.deref.result.now in
    let are = c.simplices-simplices.ensures.simplices ∙ c.inputs.ensures.inputs in
    let size = ap length are in
    let inside : n < length (inputs t) = (let low = c.simplices-test.true in omega (arith, low, size)) in
    let listed : n < length t.delta = (let l = length-map t.delta (λ (rule : Rule). rule.input) in omega (arith, inside, l)) in
    let many : n < length c.args.rows.now = (let e = c.requires.fit.each in let l = length-map c.args.rows.now vec_items in omega (arith, inside, e, l)) in
    let here = c.index-simplices-number.is ∙ ap (λ ss. get_or ss n s) are in
    let input = input_is t c.simplices-simplices.result.now n s are listed c.index-simplices-number.is in
    let code = rule_labels t n s c.symmetric-symmetric.result c.labels_code-labels.result c.inputs.ensures.task listed input c.symmetric-symmetric.ensures c.labels_code-labels.ensures.same ∙ ap (λ u. digits_code (labels t u)) (sym input) in
    let there = ap vec_items c.index-rows-number.is ∙ sym (get_or-map vec_items c.args.rows.now n c.index-rows-number.result ys many) in
    let kept = c.simplices.invariant test is in
    let step = row_step t rows c.requires.fit.each weights c.args.modulus test n s ys zs c.labels_code-labels.result inside here there c.deref.ensures.value code kept.1 in
    let e = c.in_err-judge_tuples.field-0.0 in
    let p = err_from_is_err_and c.from_residual.result c.from_residual.ensures.1 in
    rw (p.1, p.2)
    (handed e (tuples_fault (test s) n 0 zs) (rules_fault test 0 rules) (c.in_err-judge_tuples.ensures (test s) step.0)
    (λ h. sym kept.0 ∙ step.2 ∙ ap (λ o. unless_fault o (rules_fault test (n + 1) (drop (n + 1) rules))) h))

pub simplices-preserved : goal.simplices-preserved
simplices-preserved c = λ test is.
    let t = c.args.task.now in
    let rows = map vec_items c.args.rows.now in
    let rules = rules_seen (inputs t) rows in
    let weights = λ (q : ℕ). unwrap_or (get nat_cmp c.args.weights.now q) 0 in
    let n = c.simplices.number in
    let s = c.index-simplices-number.result in
    let ys = c.index-rows-number.result.items in
    let zs = c.deref.result.now in
    let are = c.simplices-simplices.ensures.simplices ∙ c.inputs.ensures.inputs in
    let size = ap length are in
    let inside : n < length (inputs t) = (let low = c.simplices-test.true in omega (arith, low, size)) in
    let listed : n < length t.delta = (let l = length-map t.delta (λ (rule : Rule). rule.input) in omega (arith, inside, l)) in
    let many : n < length c.args.rows.now = (let e = c.requires.fit.each in let l = length-map c.args.rows.now vec_items in omega (arith, inside, e, l)) in
    let here = c.index-simplices-number.is ∙ ap (λ ss. get_or ss n s) are in
    let input = input_is t c.simplices-simplices.result.now n s are listed c.index-simplices-number.is in
    let code = rule_labels t n s c.symmetric-symmetric.result c.labels_code-labels.result c.inputs.ensures.task listed input c.symmetric-symmetric.ensures c.labels_code-labels.ensures.same ∙ ap (λ u. digits_code (labels t u)) (sym input) in
    let there = ap vec_items c.index-rows-number.is ∙ sym (get_or-map vec_items c.args.rows.now n c.index-rows-number.result ys many) in
    let kept = c.simplices.invariant test is in
    let step = row_step t rows c.requires.fit.each weights c.args.modulus test n s ys zs c.labels_code-labels.result inside here there c.deref.ensures.value code kept.1 in
    (sym (step.2 ∙ ap (λ o. unless_fault o (rules_fault test (n + 1) (drop (n + 1) rules))) (c.in_ok-judge_tuples.ensures (test s) step.0)) ∙ kept.0, step.1)

pub returns : goal.returns
returns c = λ test is.
    let t = c.args.task.now in
    let rules = rules_seen (inputs t) (map vec_items c.args.rows.now) in
    let size = ap length (c.simplices-simplices.ensures.simplices ∙ c.inputs.ensures.inputs) in
    let long = seen_long (inputs t) (map vec_items c.args.rows.now) c.requires.fit.each in
    let past : length rules ≤ c.simplices.number = (let end = c.simplices-test.false in omega (arith, end, size, long)) in
    sym (c.simplices.invariant test is).0 ∙ ap (rules_fault test c.simplices.number) (drop_all c.simplices.number rules past)
