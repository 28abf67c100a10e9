use Rattle.std.proofs.Common.{◌++◌, [], ◌∷◌, Ok, arith, subst}
use Rattle.wf_base.specs.Lines.Lines.{line_of}
use Rattle.wf_report.specs.Parts.{AreAny}
use Rattle.wf_report.specs.Parts.{PassesStep, step_then, steps_then}
use Rattle.wf_report.specs.Reads.{Reads}
use Rattle.wf_report.proofs.InTurn.{last_step, no_steps, one_step, steps_stop}
use Rattle.wf_report.proofs.skim.skim_steps.Goals as goal

pub steps-init : goal.steps-init
steps-init g c = record { done = []; read = no_steps c.args.part c.args.source.now c.args.window.now; can = c.requires }

pub steps-preserved : goal.steps-preserved
steps-preserved g c =
    let k = c.steps in
    let before = k.invariant in
    let w = c.next_step.new.window in
    record {
      done = before.done ++ line_of c.in-Some.field-0 ∷ [];
      read = one_step c.args.part c.args.source.now k.source c.next_step.new.source c.args.window.now k.window w before.done before.read c.in-Some.field-0
          (λ next. subst (λ o. Reads (steps_then c.args.part k.window.number next) (step_then c.args.part w.number next) k.source c.next_step.new.source k.window w (Ok o)) c.in-Some.is (c.in_ok-next_step.ensures.step next));
      can = c.in_ok-next_step.ensures.can;
    }

pub steps-smaller : goal.steps-smaller
steps-smaller g c =
    let passed = subst (PassesStep c.steps.window c.next_step.new.window) c.in-Some.is c.in_ok-next_step.ensures.passes in
    omega (arith, passed.0, passed.1)

pub returns : goal.returns
returns g c =
    let k = c.steps in
    let before = k.invariant in
    let w = c.next_step.new.window in
    record {
      read = (
        before.done,
        last_step c.args.part c.args.source.now k.source c.next_step.new.source c.args.window.now k.window w before.done before.read (tt {0})
            (λ next. subst (λ o. Reads (steps_then c.args.part k.window.number next) (step_then c.args.part w.number next) k.source c.next_step.new.source k.window w (Ok o)) c.in_default.is (c.in_ok-next_step.ensures.step next)),
        tt {0},
      );
      ended = subst (PassesStep k.window w) c.in_default.is c.in_ok-next_step.ensures.passes;
      can = c.in_ok-next_step.ensures.can;
    }

pub returns-in_err-next_step-clause-read : goal.returns-in_err-next_step-clause-read
returns-in_err-next_step-clause-read g c =
    let k = c.steps in
    steps_stop c.args.source.now k.source c.next_step.new.source c.args.window.now k.window c.next_step.new.window c.in_err-next_step.field-0.0 c.args.part (AreAny {X = Unit {0}}) k.invariant.done
    (step_then c.args.part c.next_step.new.window.number) c.from_residual.result c.from_residual.ensures k.invariant.read c.in_err-next_step.ensures.step
