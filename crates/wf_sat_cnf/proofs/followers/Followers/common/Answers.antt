use Rattle.std.proofs.Common.{◌≡◌, ◌+◌, ◌++◌, length, map, take, drop, replicate, vec_items, sym, ap, ◌∙◌, subst, arith}
use Rattle.std.specs.List.{each_same}
use Rattle.std.proofs.lemmas.List.{length-replicate}
use Rattle.wf_model.specs.Lists.{has}
use Rattle.wf_base.specs.Set.Sets.{value_limit, values_in}
use Rattle.wf_base.proofs.OfSet.Lemmas.{same_sets}
use Rattle.wf_sat_cnf.specs.Groups.{AreAllowed, AreFollowers}
use Rattle.wf_sat_cnf.proofs.TupleLemmas.{and_true, items_more}
use Rattle.wf_sat_cnf.proofs.GroupLemmas.{allowed_more, each_set, written_back}
use Rattle.wf_base.proofs.OfStreams.Lemmas.{none_given}
use Rattle.wf_sat_cnf.proofs.followers.Followers.common.Goals as goal

pub loop-tuples-init : goal.loop-tuples-init
loop-tuples-init c =
    let set = c.args.set in
    let words : c.in_ok-sets.sets.items ≡ replicate value_limit set =
    c.in_ok-sets.ensures.items_if_clones_equal (λ y e. each_same set y e.whole) in
    let same : map values_in c.in_ok-sets.sets.items ≡ replicate value_limit (values_in set) =
    ap (map values_in) words ∙ same_sets value_limit set in
    record {
      long = ap length words ∙ length-replicate value_limit set;
      allowed = λ v a small.
          ap (λ s. has s a) (each_set (map values_in c.in_ok-sets.sets.items) (values_in set) v same small)
          ∙ sym (and_true (has (values_in set) a));
    }

pub loop-tuples-preserved : goal.loop-tuples-preserved
loop-tuples-preserved c =
    let i = c.loop-tuples.tuples-index in
    let lists = c.args.lists.now in
    let list = c.tuples-item.result in
    let old = c.loop-tuples.sets in
    let new = c.narrow.new.sets in
    let others = c.in_ok-others.others in
    let back : take old.len (new ++ drop (length new) old.items) ≡ new =
    written_back old.len new (drop (length new) old.items) (omega (arith, c.narrow.ensures.long, c.loop-tuples.invariant.long, old.ok.0)) in
    let follow : AreFollowers c.args.place c.args.next (vec_items list) others =
    subst (λ ts. AreFollowers c.args.place c.args.next ts others) c.deref.ensures.value c.in_ok-others.ensures in
    let before : AreAllowed c.args.place c.args.next (values_in c.args.set) (map vec_items (take i lists)) (map values_in c.deref_mut.result.now) =
    subst (λ sets. AreAllowed c.args.place c.args.next (values_in c.args.set) (map vec_items (take i lists)) (map values_in sets)) (sym c.deref_mut.ensures.value) c.loop-tuples.invariant.allowed in
    let allowed : AreAllowed c.args.place c.args.next (values_in c.args.set) (map vec_items (take (i + 1) lists)) (map values_in new) =
    subst (λ ls. AreAllowed c.args.place c.args.next (values_in c.args.set) ls (map values_in new)) (sym (items_more lists i list c.loop-tuples-test.true c.tuples-item.is))
    (allowed_more c.args.place c.args.next (values_in c.args.set) (map vec_items (take i lists)) (vec_items list) (map values_in c.deref_mut.result.now) others (map values_in new)
    c.narrow.ensures.kept follow before) in
    record {
      long = ap length back ∙ c.narrow.ensures.long;
      allowed = subst (λ sets. AreAllowed c.args.place c.args.next (values_in c.args.set) (map vec_items (take (i + 1) lists)) (map values_in sets)) (sym back) allowed;
    }

pub returns-in_err-sets : goal.returns-in_err-sets
returns-in_err-sets c = none_given c.from_residual.result _ c.from_residual.ensures.0

pub returns-in_err-others : goal.returns-in_err-others
returns-in_err-others c = none_given c.from_residual-in_err-others.result _ c.from_residual-in_err-others.ensures.0
