use Rattle.std.proofs.Common.{take, get_or, All, subst, sym, arith}
use Rattle.std.proofs.lemmas.List.{take_all, take_more}
use Rattle.std.proofs.lemmas.List.Elements.{All-push}
use Rattle.std.proofs.lemmas.Option.{slice_get-get_or}
use Rattle.wf_complex.specs.declared.layout.ExecutionSlot.{ExecutionSlot}
use Rattle.wf_complex.specs.Places.{EndsBy}
use Rattle.wf_complex.proofs.ExecutionsInOrder.{all_ended, has_begun}
use Rattle.wf_complex.proofs.firsts.execution_from.Goals as goal

abbrev nothing : ExecutionSlot
nothing = record { place = 0; simplex = 0; size = 0 }

pub overflow_sub-place : goal.overflow_sub-place
overflow_sub-place c =
    let (end, low, lying) = c.requires.lying in
    has_begun end c.args.place c.args.executions.now lying c.loop-number.number nothing c.loop-number-test.true c.loop-number.invariant

pub returns-then-place-execution : goal.returns-then-place-execution
returns-then-place-execution c =
    let (end, low, lying) = c.requires.lying in
    let es = c.args.executions.now in
    let begun = has_begun end c.args.place es lying c.loop-number.number nothing c.loop-number-test.true c.loop-number.invariant in
    record {
      execution = get_or es c.loop-number.number nothing;
      there = slice_get-get_or es c.loop-number.number nothing c.loop-number-test.true;
      begun = begun;
      before_its_end = omega (arith, begun);
    }

pub loop-number-preserved : goal.loop-number-preserved
loop-number-preserved c =
    let (end, low, lying) = c.requires.lying in
    let es = c.args.executions.now in
    let n = c.loop-number.number in
    let begun = has_begun end c.args.place es lying n nothing c.loop-number-test.true c.loop-number.invariant in
    let ended : EndsBy c.args.place (get_or es n nothing) = omega (arith, begun) in
    subst (All (EndsBy c.args.place)) (sym (take_more es n nothing c.loop-number-test.true))
    (All-push (EndsBy c.args.place) (take n es) (get_or es n nothing) c.loop-number.invariant ended)

pub unreachable-requires : goal.unreachable-requires
unreachable-requires c =
    let (end, low, lying) = c.requires.lying in
    let es = c.args.executions.now in
    let ended : All (EndsBy c.args.place) es = subst (All (EndsBy c.args.place)) (take_all c.loop-number.number es c.loop-number-test.false) c.loop-number.invariant in
    omega (arith, low, all_ended end c.args.place es lying ended)
