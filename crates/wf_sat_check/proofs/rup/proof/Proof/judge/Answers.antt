use Rattle.wf_sat_text.specs.Drat.Text.{State}
use Rattle.std.proofs.Common.{ap, sym, ◌∙◌}
use Rattle.wf_sat_check.proofs.OfRup.FedLemmas.{takes-lemma}
use Rattle.wf_sat_check.proofs.OfRup.RatLemmas.{satisfiable-models}
use Rattle.wf_sat_check.proofs.rup.proof.Proof.judge.Goals as goal

pub returns-in-Ok-true-clause-taken : goal.returns-in-Ok-true-clause-taken
returns-in-Ok-true-clause-taken c =
    takes-lemma c.args.self.now c.clause-2.result.now c.args.checker.now c.derive.new.self (ap (λ (s : State). s.is_deletion) (sym c.self.view_is) ∙ sym c.is_deletion.ensures ∙ c.if-is_deletion.false) (c.clause-2.ensures ∙ ap (λ (s : State). s.clause) c.self.view_is)
    (record {
      redundant = c.in-Ok-true.ensures.redundant c.in-Ok-true.field-0-test;
      kept = c.in-Ok-true.ensures.added c.in-Ok-true.field-0-test;
      still = c.in-Ok-true.ensures.still;
      alone = c.in-Ok-true.ensures.alone;
    })

pub returns-in-Ok-clause-kept : goal.returns-in-Ok-clause-kept
returns-in-Ok-clause-kept c = satisfiable-models c.args.checker.now c.delete.new.self c.delete.ensures.kept

pub returns-in-Err-clause-kept : goal.returns-in-Err-clause-kept
returns-in-Err-clause-kept c = satisfiable-models c.args.checker.now c.delete.new.self c.delete.ensures.kept
