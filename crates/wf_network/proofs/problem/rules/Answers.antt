use Rattle.std.proofs.Common.{◌≡◌, ◌<◌, ◌∙◌, ◌∷◌, [], List, All, map, ap, sym, subst, length, length-append, get_or, arith}
use Rattle.std.proofs.lemmas.List.Elements.{All-push}
use Rattle.wf_model.specs.Simplex.{Simplex}
use Rattle.wf_model.specs.Task.{inputs}
use Rattle.wf_network.specs.Problems.{AreAlike, HasTable, IsRuleOf, IsWide, KeepsProcesses, rule_seen}
use Rattle.wf_lane.specs.Table.{Table}
use Rattle.wf_complex.proofs.Lemmas.{rule_there}
use Rattle.wf_network.proofs.JoinLemmas.{alike_more, few_tuples, long_tuples, one_more}
use Rattle.wf_network.proofs.problem.rules.Goals as goal

pub table_of-requires-clause-long : goal.table_of-requires-clause-long
table_of-requires-clause-long c =
    let t = c.args.task.now in
    let n = c.loop-number.number in
    let s = c.index-inputs-number.result in
    let same : c.simplices-inputs.result.now ≡ inputs t = c.simplices-inputs.ensures.simplices ∙ c.inputs.ensures.inputs in
    let there = rule_there t n s s c.tuples-tuples.result.now (c.index-inputs-number.is ∙ ap (λ (xs : List Simplex). get_or xs n s) same) (omega (arith, c.loop-number-test.true, ap length same)) c.tuples-tuples.ensures in
    long_tuples t n _ c.inputs.ensures.task there

pub table_of-requires-clause-few : goal.table_of-requires-clause-few
table_of-requires-clause-few c =
    let t = c.args.task.now in
    let n = c.loop-number.number in
    let s = c.index-inputs-number.result in
    let same : c.simplices-inputs.result.now ≡ inputs t = c.simplices-inputs.ensures.simplices ∙ c.inputs.ensures.inputs in
    let there = rule_there t n s s c.tuples-tuples.result.now (c.index-inputs-number.is ∙ ap (λ (xs : List Simplex). get_or xs n s) same) (omega (arith, c.loop-number-test.true, ap length same)) c.tuples-tuples.ensures in
    omega (arith, few_tuples t n _ c.inputs.ensures.task there)

pub loop-number-preserved : goal.loop-number-preserved
loop-number-preserved c =
    let t = c.args.task.now in
    let n = c.loop-number.number in
    let s = c.index-inputs-number.result in
    let same : c.simplices-inputs.result.now ≡ inputs t = c.simplices-inputs.ensures.simplices ∙ c.inputs.ensures.inputs in
    let there = rule_there t n s s c.tuples-tuples.result.now (c.index-inputs-number.is ∙ ap (λ (xs : List Simplex). get_or xs n s) same) (omega (arith, c.loop-number-test.true, ap length same)) c.tuples-tuples.ensures in
    let old = c.loop-number.rules.items in
    let rule = c.of.result in
    let table = c.in_ok-table.ensures in
    let seen : IsRuleOf s c.tuples-tuples.result.now rule = c.of.ensures.rule ∙ ap (λ (t : Table). record { input = s; tuples = t.rows }) table in
    let like : rule.like < length old → HasTable s c.tuples-tuples.result.now old rule.like =
    subst (λ l. l < length old → HasTable s c.tuples-tuples.result.now old l) (sym c.of.ensures.like)
    (subst (λ rs. c.rule_with_table-like.result < length rs → HasTable s c.tuples-tuples.result.now rs c.rule_with_table-like.result) c.deref.ensures.value c.rule_with_table-like.ensures.same) in (
      ap (map rule_seen) c.in_ok-push.ensures.items ∙ one_more rule_seen old rule t.delta n _ c.loop-number.invariant.0 seen there,
      subst (All IsWide) (sym c.in_ok-push.ensures.items) (All-push IsWide old rule c.loop-number.invariant.1 c.of.ensures.wide),
      subst (All KeepsProcesses) (sym c.in_ok-push.ensures.items) (All-push KeepsProcesses old rule c.loop-number.invariant.2 c.of.ensures.processes),
      subst AreAlike (sym c.in_ok-push.ensures.items) (alike_more old rule s c.tuples-tuples.result.now c.loop-number.invariant.3 seen c.of.ensures.wide (omega (arith, c.of.ensures.like, c.rule_with_table-like.ensures.within, ap length c.deref.ensures.value)) like),
      omega (arith, ap length c.in_ok-push.ensures.items, length-append old (rule ∷ []), c.loop-number.invariant.4),
    )
