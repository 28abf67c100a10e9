use Rattle.std.proofs.Common.{◌≡◌, ◌∙◌, ap, subst, false, take}
use Rattle.std.specs.Prelude.{IfOk, not}
use Rattle.std.proofs.lemmas.List.{take_all}
use Rattle.std.proofs.lemmas.Result.{IfOk-weaker}
use Rattle.wf_sat_check.specs.Store.Literals.{with_literal}
use Rattle.wf_sat_check.specs.Rup.Settled.{IsFalseOn, Stops}
use Rattle.wf_sat_check.specs.Rup.Stored.{kept_of}
use Rattle.wf_sat_check.proofs.OfRup.CodeLemmas.{Implies-at, satisfies_codes-neither}
use Rattle.wf_sat_check.proofs.OfRup.SettledLemmas.{false-more, front-front, stops-before}
use Rattle.wf_sat_check.proofs.rup.rat.assume.Goals as goal

pub returns-then-is_true-clause-conflict : goal.returns-then-is_true-clause-conflict
returns-then-is_true-clause-conflict c = λ found.
    Implies-at _ _ c.loop-literal.trail _ c.loop-literal.literal-index 0 c.loop-literal-test.true
    c.loop-literal.invariant.forced (c.is_true.ensures.sound c.if-is_true.true)

pub loop-literal-preserved : goal.loop-literal-preserved
loop-literal-preserved c =
    let old = c.loop-literal.trail in
    let clause = c.args.candidate.now.clause.now in
    let i = c.loop-literal.literal-index in
    record {
      front = front-front c.args.trail.now old c.put.new.self c.loop-literal.invariant.front c.in_ok-put.ensures.front;
      forced = λ a all none.
          let neither = satisfies_codes-neither a clause i 0 c.loop-literal-test.true none in
          c.in_ok-put.ensures.kept a (c.loop-literal.invariant.forced a all neither.0) (c.negated-opposite.ensures.sound a ∙ ap not neither.1);
      negated = false-more old c.put.new.self clause i 0 c.loop-literal-test.true c.in_ok-put.ensures.front
          (c.in_ok-put.ensures.exact ∙ ap (with_literal old) c.negated-opposite.ensures.exact) c.loop-literal.invariant.negated;
    }

pub returns-in-Whole-clause-refused : goal.returns-in-Whole-clause-refused
returns-in-Whole-clause-refused c =
    let clause = c.args.candidate.now.clause.now in
    let whole : take c.loop-literal.literal-index clause ≡ clause = take_all _ _ c.loop-literal-test.false in
    let all : IsFalseOn c.loop-literal.trail clause = subst (IsFalseOn c.loop-literal.trail) whole c.loop-literal.invariant.negated in
    let stops : IfOk c.settle.result (λ found. found ≡ false → Stops (kept_of c.args.clauses.now) c.settle.new.trail) =
    subst (λ f. IfOk c.settle.result (λ found. found ≡ false → Stops (kept_of f) c.settle.new.trail)) c.in_ok-propagate.ensures.clauses c.settle.ensures.stops in
    IfOk-weaker c.settle.result _ _
    (λ found here no effort. stops-before (kept_of c.args.clauses.now) clause c.loop-literal.trail c.propagate.new.trail c.settle.new.trail all
    c.in_ok-propagate.ensures.trail.front c.settle.ensures.trail.front (here no))
    stops
