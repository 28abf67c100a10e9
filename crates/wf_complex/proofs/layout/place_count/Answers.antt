use Rattle.std.proofs.Common.{◌<◌, ◌≤◌, ◌+◌, ◌*◌, length, arith, rules}
use Rattle.std.proofs.lemmas.List.Elements.{recursion_from_All}
use Rattle.wf_complex.proofs.LayoutLemmas.{turns_here, place_few, whole_count}
use Rattle.wf_complex.proofs.layout.place_count.Goals as goal

pub overflow_add-places : goal.overflow_add-places
overflow_add-places c =
    let here = turns_here c.args.first_block c.args.rounds c.args.inputs.now c.loop-simplex.simplex-index c.simplex-item.result c.loop-simplex-test.true c.simplex-item.is in
    let few = place_few c.args.first_block c.args.rounds c.args.inputs.now (recursion_from_All (λ s. length s ≤ 4) c.args.inputs.now c.requires.sizes) in
    let count = whole_count c.args.first_block c.args.rounds c.simplex-item.result c.colours-size.result c.executions_on.result c.colours-size.ensures.count c.executions_on.ensures.count (omega (arith, here.0, c.loop-simplex.invariant.few, c.requires.few)) in
    let small : c.loop-simplex.places + c.executions_on.result * c.colours-size.result < 4294967296 = omega (arith, here.1, few, count.1, c.loop-simplex.invariant.places, c.requires.few) in
    search (rules, small)
