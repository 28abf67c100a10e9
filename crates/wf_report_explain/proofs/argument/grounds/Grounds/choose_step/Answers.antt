use Rattle.std.proofs.Common.{get_or, length, take_all, refl, sym, ap, ◌∙◌, arith}
use Rattle.wf_report_explain.specs.Argument.Seats.{point_at, taken_at}
use Rattle.wf_report_explain.specs.Argument.ArgumentState.{ArgumentState, Taking, cites_itself, taken}
use Rattle.wf_report_explain.specs.Argument.Trail.{state_of}
use Rattle.wf_report_explain.proofs.OfArgument.PartSteps.{all_taken, begun, ended, one_more}
use Rattle.wf_report_explain.proofs.OfArgument.TakenValues.{gone_alone, needed_more, taking_more}
use Rattle.wf_report_explain.proofs.argument.grounds.Grounds.choose_step.Goals as goal

pub loop-place-init : goal.loop-place-init
loop-place-init c =
    let x = c.args.seat.now in let tuples = x.tuples.now in let points = x.points.now in let values = c.args.values.now in
    let first = state_of c.args.state.now in let v = point_at x in
    let took = c.in_ok-take_value.ensures in
    let gone = ap (λ (s : ArgumentState). s.gone) took.state in record {
      tuples = needed_more tuples x.place values 0 _ _ c.requires.some took.needed c.clear.ensures.items;
      taking = taking_more tuples points first.number x.place v values 0 first.gone first.gone _ c.clear-2.new.self.items _ c.requires.some gone took.reasons (ap (λ reasons. record { gone = first.gone; reasons = reasons }) c.clear-2.ensures.items);
      steps = begun tuples points x.place v first.number first.gone _ values c.requires.some gone;
      state = gone_alone first first _ _ refl took.state;
      values = took.values;
    }

pub loop-place-preserved : goal.loop-place-preserved
loop-place-preserved c =
    let loop = c.loop-place in let x = c.args.seat.now in
    let tuples = x.tuples.now in let points = x.points.now in let values = c.args.values.now in
    let first = state_of c.args.state.now in let s = state_of loop.state in let v = point_at x in
    let number = ap (λ (s : ArgumentState). s.number) loop.invariant.state in
    let took = c.in_ok-take_value-2.ensures in
    let a = get_or values loop.place 0 in
    let gone = ap (λ (s : ArgumentState). s.gone) took.state ∙ ap (λ n. taken n v s.gone a) (sym number) in
    let free = ap (λ n. cites_itself tuples points n x.place s.gone a) number ∙ sym c.cites_itself.ensures ∙ c.if-cites_itself.false in record {
      tuples = needed_more tuples x.place values loop.place _ _ (omega (arith, c.loop-place-test.true)) took.needed loop.invariant.tuples;
      taking = taking_more tuples points first.number x.place v values loop.place first.gone s.gone _ loop.self.reasons.items _ (omega (arith, c.loop-place-test.true)) gone took.reasons loop.invariant.taking;
      steps = one_more tuples points x.place v first.number s.gone values loop.place _ _ (omega (arith, c.loop-place-test.true)) free gone loop.invariant.steps;
      state = gone_alone first s _ _ loop.invariant.state took.state;
      values = took.values ∙ loop.invariant.values;
    }

pub returns-then-cites_itself-clause-steps : goal.returns-then-cites_itself-clause-steps
returns-then-cites_itself-clause-steps c =
    let loop = c.loop-place in let x = c.args.seat.now in
    let tuples = x.tuples.now in let points = x.points.now in let values = c.args.values.now in
    let s = state_of loop.state in let a = get_or values loop.place 0 in
    let number = ap (λ (s : ArgumentState). s.number) loop.invariant.state in
    let cited = ap (λ n. cites_itself tuples points n x.place s.gone a) number ∙ sym c.cites_itself.ensures ∙ c.if-cites_itself.true in
    ended tuples points x.place (point_at x) c.args.state.now.number s.gone values loop.place _ (omega (arith, c.loop-place-test.true)) cited loop.invariant.steps

pub returns-then-cites_itself-clause-reasons : goal.returns-then-cites_itself-clause-reasons
returns-then-cites_itself-clause-reasons c = ap (λ (t : Taking). t.reasons) c.loop-place.invariant.taking

pub returns-then-cites_itself-clause-state : goal.returns-then-cites_itself-clause-state
returns-then-cites_itself-clause-state c =
    let first = state_of c.args.state.now in
    sym c.loop-place.invariant.state ∙ ap (λ (t : Taking). record first { gone = t.gone }) c.loop-place.invariant.taking

pub returns-clause-steps : goal.returns-clause-steps
returns-clause-steps c =
    let loop = c.loop-place in let x = c.args.seat.now in
    all_taken x.tuples.now x.points.now x.place (point_at x) c.args.state.now.number (state_of loop.state).gone c.args.values.now loop.place _ (length c.args.values.now) (omega (arith, c.loop-place-test.false)) (omega arith) loop.invariant.steps

pub returns-clause-reasons : goal.returns-clause-reasons
returns-clause-reasons c =
    let values = c.args.values.now in let all = length values in
    ap (λ (t : Taking). t.reasons) c.loop-place.invariant.taking
    ∙ ap (λ vs. (taken_at c.args.seat.now (state_of c.args.state.now) vs).reasons) (take_all c.loop-place.place values (omega (arith, c.loop-place-test.false)) ∙ sym (take_all all values (omega arith)))

pub returns-clause-state : goal.returns-clause-state
returns-clause-state c =
    let values = c.args.values.now in let all = length values in let first = state_of c.args.state.now in
    sym c.loop-place.invariant.state
    ∙ ap (λ (t : Taking). record first { gone = t.gone }) c.loop-place.invariant.taking
    ∙ ap (λ vs. record first { gone = (taken_at c.args.seat.now first vs).gone }) (take_all c.loop-place.place values (omega (arith, c.loop-place-test.false)) ∙ sym (take_all all values (omega arith)))
