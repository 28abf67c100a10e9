use Rattle.std.proofs.Common.{◌+◌, drop, sym, ap, ◌∙◌}
use Rattle.std.specs.BTreeSet.{insert_key}
use Rattle.std.specs.List.{fold}
use Rattle.std.specs.Ordering.{nat_cmp}
use Rattle.std.proofs.lemmas.List.{drop_more}
use Rattle.wf_complex.proofs.views.put_all.Goals as goal

pub loop-number-preserved : goal.loop-number-preserved
loop-number-preserved c =
    ap (λ ks. fold (insert_key nat_cmp) ks (drop (c.loop-number.number-index + 1) c.args.numbers.now)) c.in_ok-put.ensures
    ∙ ap (fold (insert_key nat_cmp) c.loop-number.among.items) (sym (drop_more c.args.numbers.now c.loop-number.number-index 0 c.loop-number-test.true))
    ∙ c.loop-number.invariant
