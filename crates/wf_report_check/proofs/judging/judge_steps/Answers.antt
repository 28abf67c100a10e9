use Rattle.std.proofs.Common.{◌++◌, ◌∙◌, [], ◌∷◌, Result, Ok, Err, arith, refl, subst}
use Rattle.wf_base.specs.Lines.Lines.{line_of}
use Rattle.wf_report.specs.declared.fault.CertFault.{CertFault}
use Rattle.wf_report_check.specs.Left.{claimed}
use Rattle.wf_report_check.specs.Rules.{problem_in}
use Rattle.wf_report_check.specs.Judged.{AreJudged}
use Rattle.wf_report.specs.Parts.{AreAny, PassesStep, ReadsSteps, step_then, steps_then}
use Rattle.wf_report.specs.Reads.{Reads}
use Rattle.wf_report.proofs.Lemmas.{last_step, no_steps, one_step, rest_read, rest_stop, steps_stop}
use Rattle.wf_report_check.proofs.JudgedSteps.{judged_fault, judged_last, judged_more}
use Rattle.wf_report_check.proofs.judging.judge_steps.Goals as goal

pub steps-init : goal.steps-init
steps-init g c = record { done = []; read = no_steps c.part_of-part.result c.args.source.now c.args.window.now; can = c.requires.can; judged = λ steps. refl; points = refl; line = c.requires.number }

pub take-requires : goal.take-requires
take-requires g c =
    let passed = subst (PassesStep c.steps.window c.next_step.new.window) c.in-Some.is c.in_ok-step.ensures.passes in
    let line = c.steps.invariant.line in
    record { rules = c.requires.rules; long = c.steps.invariant.points ∙ c.requires.long; few = omega (arith, line, passed.1) }

pub steps-preserved : goal.steps-preserved
steps-preserved g c =
    let k = c.steps in
    let before = k.invariant in
    let part = c.part_of-part.result in
    let w = c.next_step.new.window in
    let p = problem_in c.args.rules.now in
    let claim = claimed c.args.rules.now.claim in
    let passed = subst (PassesStep k.window w) c.in-Some.is c.in_ok-step.ensures.passes in
    let line = before.line in
    let next = c.in-Ok.ensures.next in
    record {
      done = before.done ++ line_of c.in-Some.step ∷ [];
      read = one_step part c.args.source.now k.source c.next_step.new.source c.args.window.now k.window w before.done before.read c.in-Some.step
          (λ next. subst (λ o. Reads (steps_then part k.window.number next) (step_then part w.number next) k.source c.next_step.new.source k.window w (Ok o)) c.in-Some.is (c.in_ok-step.ensures.step next));
      can = c.in_ok-step.ensures.can;
      judged = judged_more p claim c.args.checker k.checker before.done before.judged (line_of c.in-Some.step) c.take.new.self c.in-Ok.ensures.judged;
      points = c.in-Ok.ensures.points ∙ before.points;
      line = omega (arith, line, passed.0, next);
    }

pub steps-smaller : goal.steps-smaller
steps-smaller g c =
    let passed = subst (PassesStep c.steps.window c.next_step.new.window) c.in-Some.is c.in_ok-step.ensures.passes in
    omega (arith, passed.0, passed.1)

pub returns-in_err-step-clause-read : goal.returns-in_err-step-clause-read
returns-in_err-step-clause-read g c =
    let k = c.steps in
    let says = AreJudged {X = Unit {0}} (problem_in c.args.rules.now) c.args.rules.now.claim c.args.checker in
    subst (λ part. ReadsSteps part says c.args.source.now c.next_step.new.source c.args.window.now c.next_step.new.window c.from_residual.result) c.part_of-part.ensures
    (steps_stop c.args.source.now k.source c.next_step.new.source c.args.window.now k.window c.next_step.new.window c.in_err-step.field-0.0 c.part_of-part.result says k.invariant.done
    (step_then c.part_of-part.result c.next_step.new.window.number) c.from_residual.result c.from_residual.ensures k.invariant.read c.in_err-step.ensures.step)

pub returns-in_err-skim_steps-in-Err-clause-read : goal.returns-in_err-skim_steps-in-Err-clause-read
returns-in_err-skim_steps-in-Err-clause-read g c =
    let k = c.steps in
    let part = c.part_of-part.result in
    let w = c.next_step.new.window in
    let l = line_of c.in-Some.step in
    let says = AreJudged {X = Unit {0}} (problem_in c.args.rules.now) c.args.rules.now.claim c.args.checker in
    let result = c.from_residual-in_err-skim_steps-in-Err.result in
    let read = one_step part c.args.source.now k.source c.next_step.new.source c.args.window.now k.window w k.invariant.done k.invariant.read c.in-Some.step
    (λ next. subst (λ o. Reads (steps_then part k.window.number next) (step_then part w.number next) k.source c.next_step.new.source k.window w (Ok o)) c.in-Some.is (c.in_ok-step.ensures.step next)) in
    subst (λ part. ReadsSteps part says c.args.source.now c.skim_steps.new.source c.args.window.now c.skim_steps.new.window result) c.part_of-part.ensures
    (rest_stop part c.args.source.now c.next_step.new.source c.skim_steps.new.source c.args.window.now w c.skim_steps.new.window (k.invariant.done ++ l ∷ []) read
    c.in_err-skim_steps-in-Err.field-0.0 says (AreAny {X = Unit {0}}) result c.from_residual-in_err-skim_steps-in-Err.ensures c.in_err-skim_steps-in-Err.ensures.read)

pub returns-in-Err-clause-read : goal.returns-in-Err-clause-read
returns-in-Err-clause-read g c =
    let k = c.steps in
    let part = c.part_of-part.result in
    let w = c.next_step.new.window in
    let l = line_of c.in-Some.step in
    let p = problem_in c.args.rules.now in
    let claim = claimed c.args.rules.now.claim in
    let says = AreJudged {X = Unit {0}} p c.args.rules.now.claim c.args.checker in
    let fault = c.in-Err.fault in
    let verdict : Result (Unit {0}) CertFault = Err fault in
    let read = one_step part c.args.source.now k.source c.next_step.new.source c.args.window.now k.window w k.invariant.done k.invariant.read c.in-Some.step
    (λ next. subst (λ o. Reads (steps_then part k.window.number next) (step_then part w.number next) k.source c.next_step.new.source k.window w (Ok o)) c.in-Some.is (c.in_ok-step.ensures.step next)) in
    subst (λ part. ReadsSteps part says c.args.source.now c.skim_steps.new.source c.args.window.now c.skim_steps.new.window (Ok verdict)) c.part_of-part.ensures
    (rest_read part c.args.source.now c.next_step.new.source c.skim_steps.new.source c.args.window.now w c.skim_steps.new.window (k.invariant.done ++ l ∷ []) read
    verdict (tt {0}) says (AreAny {X = Unit {0}}) c.in_ok-skim_steps-in-Err.ensures.read
    (judged_fault p claim c.args.checker k.checker k.invariant.done k.invariant.judged l fault c.in-Err.ensures.judged))

pub returns : goal.returns
returns g c =
    let k = c.steps in
    let part = c.part_of-part.result in
    let w = c.next_step.new.window in
    let p = problem_in c.args.rules.now in
    let claim = claimed c.args.rules.now.claim in
    let says = AreJudged {X = Unit {0}} p c.args.rules.now.claim c.args.checker in
    record {
      read = subst (λ part. ReadsSteps part says c.args.source.now c.next_step.new.source c.args.window.now w (Ok c.finish.result)) c.part_of-part.ensures (
        k.invariant.done,
        last_step part c.args.source.now k.source c.next_step.new.source c.args.window.now k.window w k.invariant.done k.invariant.read c.finish.result
            (λ next. subst (λ o. Reads (steps_then part k.window.number next) (step_then part w.number next) k.source c.next_step.new.source k.window w (Ok o)) c.in_default.is (c.in_ok-step.ensures.step next)),
        judged_last p claim c.args.checker k.checker k.invariant.done k.invariant.judged c.finish.result (c.finish.ensures p),
      );
      ended = subst (PassesStep k.window w) c.in_default.is c.in_ok-step.ensures.passes;
      can = c.in_ok-step.ensures.can;
    }
