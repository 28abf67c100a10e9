use Rattle.std.proofs.Common.{nat_lt, filter, map, ap, sym, ◌∙◌, take_all}
use Rattle.std.proofs.lemmas.Simd.{map-map}
use Rattle.wf_base.specs.Set.Parts.{part_limit}
use Rattle.wf_base.specs.Set.Sets.{values_in}
use Rattle.wf_box.proofs.kept.narrow.Goals as goal

pub returns : goal.returns
returns c =
    c.loop-set.invariant.values
    ∙ ap (map (λ set. filter (λ v. nat_lt v part_limit) (values_in set))) (take_all c.loop-set.set-index c.args.sets.now c.loop-set-test.false)
    ∙ sym (map-map (filter (λ v. nat_lt v part_limit)) values_in c.args.sets.now)
