use Rattle.wf_sat_check.proofs.OfLrat.ModelLemmas.{no_model_before}
use Rattle.wf_sat_check.proofs.lrat.proof.LratProof.finish.Goals as goal

pub returns-then-is_refuted-clause-sound : goal.returns-then-is_refuted-clause-sound
returns-then-is_refuted-clause-sound c =
    no_model_before c.args.checker.now c.feed.new.checker c.feed.ensures.kept (c.is_refuted.ensures.sound c.if-is_refuted.true)
