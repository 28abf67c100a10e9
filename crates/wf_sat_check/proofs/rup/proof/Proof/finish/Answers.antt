use Rattle.wf_sat_check.proofs.OfRup.RatLemmas.{no-model-before, no-model-of_empty}
use Rattle.wf_sat_check.proofs.rup.proof.Proof.finish.Goals as goal

pub returns-then-is_refuted-clause-accepted : goal.returns-then-is_refuted-clause-accepted
returns-then-is_refuted-clause-accepted c =
    no-model-before c.args.checker.now c.feed.new.checker c.feed.ensures.kept (c.is_refuted.ensures.sound c.if-is_refuted.true)

pub returns-in-Ok-true-clause-accepted : goal.returns-in-Ok-true-clause-accepted
returns-in-Ok-true-clause-accepted c =
    no-model-before c.args.checker.now c.feed.new.checker c.feed.ensures.kept
    (no-model-of_empty c.feed.new.checker (c.in-Ok-true.ensures.redundant c.in-Ok-true.field-0-test))
