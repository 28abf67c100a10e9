use Rattle.std.proofs.Common.{◌≡◌, ◌∙◌, length, subst, sym, arith}
use Rattle.std.specs.Cmp.Lexicographic.{bytes_decides, pointwise_decides}
use Rattle.wf_network.specs.Problems.{HasTable}
use Rattle.wf_network.proofs.JoinLemmas.{table_like}
use Rattle.wf_network.proofs.problem.rule_with_table.Goals as goal

pub returns-then-eq-clause-same : goal.returns-then-eq-clause-same
returns-then-eq-clause-same c = λ low.
    let rule = c.index-rules-number.result in
    let same : c.tuples.result.now ≡ c.args.tuples.now = (pointwise_decides bytes_decides c.tuples.result.now c.args.tuples.now).0 (sym c.eq.ensures ∙ c.if-eq.true) in
    let long : length rule.simplex ≡ length c.args.simplex = omega (arith, c.colours.ensures.count, c.colours-in-loop-number.ensures.count, c.if-colours.true) in
    subst (λ tuples. HasTable c.args.simplex tuples c.args.rules.now rule.like) same
    (table_like c.args.task.now c.args.rules.now c.loop-number.number rule c.args.simplex c.tuples.result.now c.requires.rules c.requires.wide c.requires.alike (omega (arith, c.loop-number-test.true)) c.requires.within c.index-rules-number.is long c.tuples.ensures)
