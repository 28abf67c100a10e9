use Rattle.wf_sat_check.proofs.OfLrat.ModelLemmas.{satisfiable_models}
use Rattle.wf_sat_check.proofs.lrat.proof.LratProof.judge.Goals as goal

pub returns-in-Ids-clause-kept : goal.returns-in-Ids-clause-kept
returns-in-Ids-clause-kept c = satisfiable_models c.args.checker.now c.delete.new.self c.delete.ensures.kept
