use Rattle.std.proofs.Common.{◌≡◌, ◌+◌, ◌∷◌, [], suc, ap, sym, ◌∙◌, arith, take}
use Rattle.std.specs.Prelude.{◌++◌}
use Rattle.wf_report_check.specs.Places.{tuples_of}
use Rattle.wf_report_check.proofs.PlaceLemmas.{one_rule_more}
use Rattle.wf_report_check.proofs.support.support_all.Goals as goal

pub loop-number-preserved : goal.loop-number-preserved
loop-number-preserved c =
    let n = c.loop-number.number in
    let rules = c.args.task.now.delta in
    let next : suc n ≡ n + 1 = omega arith in
    c.in_ok-push.ensures.items
    ∙ ap (λ l. l ++ c.in_ok-of.field-0 ∷ []) c.loop-number.invariant
    ∙ ap (λ s. tuples_of (take n rules) ++ s ∷ []) c.in_ok-of.ensures
    ∙ sym (one_rule_more rules n c.tuples.result.now c.tuples.ensures)
    ∙ ap (λ k. tuples_of (take k rules)) next
