use Rattle.std.proofs.Common.{◌≡◌, ◌<◌, ◌+◌, ◌&&◌, ℕ, [], length, map, get_or, sym, ap, ◌∙◌, subst, arith}
use Rattle.std.proofs.Math.Bool.{and_comm}
use Rattle.std.proofs.lemmas.List.{map-set, get_or-map, length-map}
use Rattle.wf_model.specs.Lists.{has}
use Rattle.wf_model.proofs.Lemmas.{has-filter}
use Rattle.wf_base.specs.Set.Sets.{values_in}
use Rattle.wf_sat_cnf.proofs.GroupLemmas.{AreNarrowed, narrowed_more}
use Rattle.wf_sat_cnf.proofs.followers.narrow.Goals as goal

pub loop-value-preserved : goal.loop-value-preserved
loop-value-preserved c =
    let n = c.loop-value.value in
    let before = map values_in c.args.sets.now in
    let sets = map values_in c.loop-value.sets in
    let others = c.args.others.now in
    let set = values_in c.intersection-fewer.result in
    let inside : n < length c.loop-value.sets = omega (arith, c.loop-value-test.true, c.loop-value.invariant.long, length-map c.loop-value.sets values_in) in
    let says : (a : ℕ) → has set a ≡ (has (get_or sets n []) a && has (get_or others n []) a) =
    λ a. ap (λ s. has s a) c.intersection-fewer.ensures
    ∙ has-filter (has (values_in c.set.result)) _ a
    ∙ and_comm (has (values_in c.set.result) a) _
    ∙ ap (λ s. has s a && has (values_in c.set.result) a) (sym (get_or-map values_in c.loop-value.sets n _ [] inside))
    ∙ ap (λ s. has (get_or sets n []) a && has s a) c.set.ensures in
    subst (AreNarrowed (n + 1) before others) (sym (map-set values_in c.loop-value.sets n c.intersection-fewer.result))
    (narrowed_more n before others sets set c.loop-value-test.true says c.loop-value.invariant)
