use Rattle.std.proofs.Common.{◌≡◌, ◌+◌, ◌++◌, [], length, map, take, drop, replicate, sym, ap, ◌∙◌, subst, arith}
use Rattle.std.specs.List.{each_same}
use Rattle.std.proofs.lemmas.List.{length-replicate}
use Rattle.wf_model.specs.Lists.{has}
use Rattle.wf_base.specs.Set.Sets.{value_limit, values_in}
use Rattle.wf_base.proofs.OfSet.Lemmas.{same_sets}
use Rattle.wf_sat_cnf.specs.Groups.{AreFollowers}
use Rattle.wf_sat_cnf.proofs.GroupLemmas.{each_set, taken_more, written_back}
use Rattle.wf_base.proofs.OfStreams.Lemmas.{none_given}
use Rattle.wf_sat_cnf.proofs.followers.Followers.of.Goals as goal

pub loop-tuple-init : goal.loop-tuple-init
loop-tuple-init c =
    let words : c.in_ok-sets.sets.items ≡ replicate value_limit c.empty.result =
    c.in_ok-sets.ensures.items_if_clones_equal (λ y e. each_same c.empty.result y e.whole) in
    let same : map values_in c.in_ok-sets.sets.items ≡ replicate value_limit [] =
    ap (map values_in) words ∙ same_sets value_limit c.empty.result ∙ ap (replicate value_limit) c.empty.ensures in
    record {
      long = ap length words ∙ length-replicate value_limit c.empty.result;
      follow = λ v a small. ap (λ s. has s a) (each_set (map values_in c.in_ok-sets.sets.items) [] v same small);
    }

pub loop-tuple-preserved : goal.loop-tuple-preserved
loop-tuple-preserved c =
    let i = c.loop-tuple.tuple-index in
    let tuples = c.args.tuples.now in
    let old = c.loop-tuple.sets in
    let new = c.put.new.sets in
    let back : take old.len (new ++ drop (length new) old.items) ≡ new =
    written_back old.len new (drop (length new) old.items) (omega (arith, c.put.ensures.long, c.loop-tuple.invariant.long, old.ok.0)) in
    record {
      long = ap length back ∙ c.put.ensures.long;
      follow = subst (λ sets. AreFollowers c.args.place c.args.next (take (i + 1) tuples) (map values_in sets)) (sym back)
          (subst (λ ts. AreFollowers c.args.place c.args.next ts (map values_in new)) (sym (taken_more tuples i c.tuple-item.result c.loop-tuple-test.true c.tuple-item.is))
          (c.put.ensures.more (take i tuples)
          (subst (λ sets. AreFollowers c.args.place c.args.next (take i tuples) (map values_in sets)) (sym c.deref_mut.ensures.value) c.loop-tuple.invariant.follow)));
    }

pub returns-in_err-sets : goal.returns-in_err-sets
returns-in_err-sets c = none_given c.from_residual.result _ c.from_residual.ensures.0
