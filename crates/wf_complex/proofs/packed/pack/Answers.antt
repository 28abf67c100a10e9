use Rattle.std.proofs.Common.{◌+◌, ◌*◌, [], ◌++◌, length, map, drop, append_assoc, arith, sym, ap, ◌∙◌}
use Rattle.std.proofs.lemmas.List.{map-append}
use Rattle.wf_complex.specs.Layout.{turns, laid_on, laid_out}
use Rattle.wf_complex.specs.Packed.{packed_on}
use Rattle.wf_complex.proofs.LayoutLemmas.{turns_here, whole_count, laid_out-more}
use Rattle.wf_complex.proofs.packed.pack.Goals as goal

pub pack_simplex-requires-clause-room : goal.pack_simplex-requires-clause-room
pack_simplex-requires-clause-room c =
    let here = turns_here c.args.first_block c.args.rounds c.args.inputs.now c.loop-number.number c.index-inputs-number.result (omega arith) c.index-inputs-number.is in
    let count = whole_count c.args.first_block c.args.rounds c.index-inputs-number.result c.colours-size.result c.executions_on-count.result c.colours-size.ensures.count c.executions_on-count.ensures.count (omega (arith, here.0, c.loop-number.invariant.few, c.requires.few)) in
    omega (arith, here.1, count.1, c.loop-number.invariant.place, c.requires.places, ap length c.deref.ensures.value)

pub loop-number-preserved : goal.loop-number-preserved
loop-number-preserved c =
    let m = c.args.first_block in
    let r = c.args.rounds in
    let inputs = c.args.inputs.now in
    let number = c.loop-number.number in
    let place = c.loop-number.place in
    let s = c.index-inputs-number.result in
    let before = c.loop-number.executions.items in
    let f = packed_on c.args.numbers.items in
    let here = turns_here m r inputs number s (omega arith) c.index-inputs-number.is in
    let count = whole_count m r s c.colours-size.result c.executions_on-count.result c.colours-size.ensures.count c.executions_on-count.ensures.count (omega (arith, here.0, c.loop-number.invariant.few, c.requires.few)) in
    let now = laid_on number (length s) place (turns m (length s) r) in
    let later = laid_out m r (number + 1) (place + turns m (length s) r * length s) (drop (number + 1) inputs) in
    record {
      place = omega (arith, here.1, count.1, c.loop-number.invariant.place);
      few = omega (arith, here.0, c.loop-number.invariant.few);
      packed =
          (λ i. c.in_ok-pack_simplex.ensures i ++ map f (laid_out m r (number + 1) (place + c.executions_on-count.result * c.colours-size.result) (drop (number + 1) inputs)))
          ∙ (λ i. (before ++ map (packed_on (c.deref.ensures.value i)) (laid_on number (c.colours-size.ensures.count i) place (count.0 i))) ++ map f (laid_out m r (number + 1) (place + count.1 i) (drop (number + 1) inputs)))
          ∙ append_assoc before (map f now) (map f later)
          ∙ ap (λ es. before ++ es) (sym (map-append f now later))
          ∙ ap (λ es. before ++ map f es) (sym (laid_out-more m r inputs number place s [] (omega arith) c.index-inputs-number.is))
          ∙ c.loop-number.invariant.packed;
    }
