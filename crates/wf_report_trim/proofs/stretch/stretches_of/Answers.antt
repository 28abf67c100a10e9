use Rattle.std.proofs.Common.{◌≡◌, ◌<◌, ◌+◌, ◌*◌, ◌++◌, [], ◌∷◌, drop, length, arith, rules, sym, ap, ◌∙◌}
use Rattle.wf_complex.specs.Layout.{turns}
use Rattle.wf_report_trim.specs.Stretches.{stretches}
use Rattle.wf_report_trim.proofs.WordListCounts.{counted, stretches_more}
use Rattle.wf_report_trim.proofs.stretch.stretches_of.Goals as goal

pub execution_count_of_size-each-requires-clause-fits : goal.execution_count_of_size-each-requires-clause-fits
execution_count_of_size-each-requires-clause-fits c =
    let s = c.simplex-item.result in
    let n = counted c.args.first_block c.args.rounds c.args.more c.loop-simplex.simplex-index c.args.inputs.now s c.requires.one c.requires.most (omega arith) (omega arith) (omega arith) c.simplex-item.is in
    let size : turns c.args.first_block c.colours-size.result c.args.more ≡ turns c.args.first_block (length s) c.args.more = ap (λ k. turns c.args.first_block k c.args.more) c.colours-size.ensures.count in
    omega (arith, size, n.each_few, n.after_here, c.loop-simplex.invariant.after, c.requires.after)

pub execution_count_of_size-count-requires-clause-fits : goal.execution_count_of_size-count-requires-clause-fits
execution_count_of_size-count-requires-clause-fits c =
    let s = c.simplex-item.result in
    let n = counted c.args.first_block c.args.rounds c.args.more c.loop-simplex.simplex-index c.args.inputs.now s c.requires.one c.requires.most (omega arith) (omega arith) (omega arith) c.simplex-item.is in
    let size : turns c.args.first_block c.colours-size.result c.args.rounds ≡ turns c.args.first_block (length s) c.args.rounds = ap (λ k. turns c.args.first_block k c.args.rounds) c.colours-size.ensures.count in
    omega (arith, size, n.before_here, c.loop-simplex.invariant.before, c.requires.before)

pub overflow_mul-after : goal.overflow_mul-after
overflow_mul-after c =
    let s = c.simplex-item.result in
    let n = counted c.args.first_block c.args.rounds c.args.more c.loop-simplex.simplex-index c.args.inputs.now s c.requires.one c.requires.most (omega arith) (omega arith) (omega arith) c.simplex-item.is in
    let product : c.execution_count_of_size-count.result * c.execution_count_of_size-each.result ≡ turns c.args.first_block (length s) (c.args.rounds + c.args.more) =
    (λ i. c.execution_count_of_size-count.ensures i * c.execution_count_of_size-each.ensures i) ∙ (λ i. turns c.args.first_block (c.colours-size.ensures.count i) c.args.rounds * turns c.args.first_block (c.colours-size.ensures.count i) c.args.more) ∙ n.product in
    let small : c.execution_count_of_size-count.result * c.execution_count_of_size-each.result < 4294967296 = omega (arith, product, n.after_here, c.loop-simplex.invariant.after, c.requires.after) in
    search (rules, small)

pub overflow_add-after : goal.overflow_add-after
overflow_add-after c =
    let s = c.simplex-item.result in
    let n = counted c.args.first_block c.args.rounds c.args.more c.loop-simplex.simplex-index c.args.inputs.now s c.requires.one c.requires.most (omega arith) (omega arith) (omega arith) c.simplex-item.is in
    let product : c.execution_count_of_size-count.result * c.execution_count_of_size-each.result ≡ turns c.args.first_block (length s) (c.args.rounds + c.args.more) =
    (λ i. c.execution_count_of_size-count.ensures i * c.execution_count_of_size-each.ensures i) ∙ (λ i. turns c.args.first_block (c.colours-size.ensures.count i) c.args.rounds * turns c.args.first_block (c.colours-size.ensures.count i) c.args.more) ∙ n.product in
    let small : c.loop-simplex.after + c.execution_count_of_size-count.result * c.execution_count_of_size-each.result < 4294967296 = omega (arith, product, n.after_here, c.loop-simplex.invariant.after, c.requires.after) in
    search (rules, small)

pub loop-simplex-preserved : goal.loop-simplex-preserved
loop-simplex-preserved c =
    let s = c.simplex-item.result in
    let m = c.args.first_block in
    let r = c.args.rounds in
    let k = c.args.more in
    let i = c.loop-simplex.simplex-index in
    let inputs = c.args.inputs.now in
    let n = counted m r k i inputs s c.requires.one c.requires.most (omega arith) (omega arith) (omega arith) c.simplex-item.is in
    let each : c.execution_count_of_size-each.result ≡ turns m (length s) k = c.execution_count_of_size-each.ensures ∙ ap (λ j. turns m j k) c.colours-size.ensures.count in
    let count : c.execution_count_of_size-count.result ≡ turns m (length s) r = c.execution_count_of_size-count.ensures ∙ ap (λ j. turns m j r) c.colours-size.ensures.count in
    let product : c.execution_count_of_size-count.result * c.execution_count_of_size-each.result ≡ turns m (length s) (r + k) = (λ j. count j * each j) ∙ n.product in
    record {
      before = omega (arith, count, n.before_here, c.loop-simplex.invariant.before);
      after = omega (arith, product, n.after_here, c.loop-simplex.invariant.after);
      listed =
          (λ j. c.in_ok-push.ensures.items j ++ stretches m r k (c.loop-simplex.before + count j) (c.loop-simplex.after + product j) (drop (i + 1) inputs))
          ∙ (λ j. (c.loop-simplex.list.items ++ record { before = c.loop-simplex.before; after = c.loop-simplex.after; each = each j } ∷ []) ++ stretches m r k (c.loop-simplex.before + turns m (length s) r) (c.loop-simplex.after + turns m (length s) (r + k)) (drop (i + 1) inputs))
          ∙ sym (stretches_more m r k i c.loop-simplex.before c.loop-simplex.after inputs s c.loop-simplex.list.items (omega arith) c.simplex-item.is)
          ∙ c.loop-simplex.invariant.listed;
    }
