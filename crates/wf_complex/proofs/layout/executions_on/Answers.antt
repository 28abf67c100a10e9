use Rattle.std.proofs.Common.{◌≤◌, ◌<◌, ◌*◌, length, min, arith, rules, sym, ap, ◌∙◌}
use Rattle.wf_model.specs.Word.{words}
use Rattle.wf_complex.specs.Layout.{turns}
use Rattle.wf_complex.proofs.LayoutLemmas.{words_few, words_some, turns-more, min_times, product_small}
use Rattle.wf_complex.proofs.layout.executions_on.Goals as goal

pub overflow_mul-count : goal.overflow_mul-count
overflow_mul-count c =
    let few = words_few c.args.first_block c.args.size c.requires.one c.requires.most c.requires.some c.requires.few in
    let small : c.loop-round.count * c.allowed_count-words.result ≤ 500001 * 75 = product_small c.loop-round.count c.allowed_count-words.result 500001 75 (omega (arith, c.loop-round.invariant)) (omega (arith, few, c.allowed_count-words.ensures)) in
    let below : c.loop-round.count * c.allowed_count-words.result < 4294967296 = omega (arith, small) in
    search (rules, below)

pub loop-round-preserved : goal.loop-round-preserved
loop-round-preserved c =
    c.min-count.ensures
    ∙ (λ i. min (c.loop-round.invariant i * c.allowed_count-words.ensures i) 500001)
    ∙ min_times (turns c.args.first_block c.args.size c.loop-round._round) (length (words c.args.first_block c.args.size)) 500001 (words_some c.args.first_block c.args.size c.requires.one c.requires.most c.requires.some c.requires.few)
    ∙ ap (λ n. min n 500001) (sym (turns-more c.args.first_block c.args.size c.loop-round._round))
