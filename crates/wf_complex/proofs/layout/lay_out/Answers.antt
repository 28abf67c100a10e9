use Rattle.std.proofs.Common.{◌≡◌, ◌<◌, ◌≤◌, ◌+◌, ◌*◌, ◌++◌, length, drop, arith, rules, sym, ap, ◌∙◌}
use Rattle.std.proofs.lemmas.List.Elements.{recursion_from_All}
use Rattle.wf_complex.specs.Layout.{laid_on, laid_out}
use Rattle.wf_complex.proofs.LayoutLemmas.{turns_here, place_few, whole_count, laid_out-more}
use Rattle.wf_complex.proofs.layout.lay_out.Goals as goal

pub lay_on-requires-clause-room : goal.lay_on-requires-clause-room
lay_on-requires-clause-room c =
    let here = turns_here c.args.first_block c.args.rounds c.args.inputs.now c.loop-number.number c.index-inputs-number.result (omega arith) c.index-inputs-number.is in
    let few = place_few c.args.first_block c.args.rounds c.args.inputs.now (recursion_from_All (λ s. length s ≤ 4) c.args.inputs.now c.requires.sizes) in
    let count = whole_count c.args.first_block c.args.rounds c.index-inputs-number.result c.colours-size.result c.executions_on-count.result c.colours-size.ensures.count c.executions_on-count.ensures.count (omega (arith, here.0, c.loop-number.invariant.few, c.requires.few)) in
    omega (arith, here.1, few, count.1, c.loop-number.invariant.place, c.requires.few)

pub overflow_add-place : goal.overflow_add-place
overflow_add-place c =
    let here = turns_here c.args.first_block c.args.rounds c.args.inputs.now c.loop-number.number c.index-inputs-number.result (omega arith) c.index-inputs-number.is in
    let few = place_few c.args.first_block c.args.rounds c.args.inputs.now (recursion_from_All (λ s. length s ≤ 4) c.args.inputs.now c.requires.sizes) in
    let count = whole_count c.args.first_block c.args.rounds c.index-inputs-number.result c.colours-size.result c.executions_on-count.result c.colours-size.ensures.count c.executions_on-count.ensures.count (omega (arith, here.0, c.loop-number.invariant.few, c.requires.few)) in
    let wide : c.executions_on-count.result * c.from.result ≡ c.executions_on-count.result * c.colours-size.result = ap (λ n. c.executions_on-count.result * n) c.from.ensures in
    let small : c.loop-number.place + c.executions_on-count.result * c.from.result < 4294967296 = omega (arith, wide, here.1, few, count.1, c.loop-number.invariant.place, c.requires.few) in
    search (rules, small)

pub loop-number-preserved : goal.loop-number-preserved
loop-number-preserved c =
    let inputs = c.args.inputs.now in
    let s = c.index-inputs-number.result in
    let here = turns_here c.args.first_block c.args.rounds inputs c.loop-number.number s (omega arith) c.index-inputs-number.is in
    let count = whole_count c.args.first_block c.args.rounds s c.colours-size.result c.executions_on-count.result c.colours-size.ensures.count c.executions_on-count.ensures.count (omega (arith, here.0, c.loop-number.invariant.few, c.requires.few)) in
    let wide : c.executions_on-count.result * c.from.result ≡ c.executions_on-count.result * c.colours-size.result = ap (λ n. c.executions_on-count.result * n) c.from.ensures in
    record {
      place = omega (arith, wide, here.1, count.1, c.loop-number.invariant.place);
      few = omega (arith, here.0, c.loop-number.invariant.few);
      laid =
          (λ i. c.in_ok-lay_on.ensures i ++ laid_out c.args.first_block c.args.rounds (c.loop-number.number + 1) (c.loop-number.place + wide i) (drop (c.loop-number.number + 1) inputs))
          ∙ (λ i. (c.loop-number.executions.items ++ laid_on c.loop-number.number (c.colours-size.ensures.count i) c.loop-number.place (count.0 i)) ++ laid_out c.args.first_block c.args.rounds (c.loop-number.number + 1) (c.loop-number.place + count.1 i) (drop (c.loop-number.number + 1) inputs))
          ∙ sym (laid_out-more c.args.first_block c.args.rounds inputs c.loop-number.number c.loop-number.place s c.loop-number.executions.items (omega arith) c.index-inputs-number.is)
          ∙ c.loop-number.invariant.laid;
    }
