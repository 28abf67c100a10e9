use Rattle.std.proofs.Common.{◌<◌, subst, arith}
use Rattle.std.specs.List.{All}
use Rattle.std.proofs.lemmas.List.{take_all}
use Rattle.wf_report_check.proofs.GroupLemmas.{wider_more}
use Rattle.wf_report_check.proofs.group.row_width.Goals as goal

pub loop-value-preserved : goal.loop-value-preserved
loop-value-preserved c = (
  omega (arith, c.loop-value.invariant.0, c.max-wider.ensures),
  wider_more c.args.values.now c.loop-value.value-index c.loop-value.wider c.max-wider.result 0 c.loop-value-test.true c.max-wider.ensures c.loop-value.invariant.1,
)

pub returns-clause-narrow : goal.returns-clause-narrow
returns-clause-narrow c = subst (All (λ v. v < c.loop-value.wider)) (take_all c.loop-value.value-index c.args.values.now c.loop-value-test.false) c.loop-value.invariant.1
