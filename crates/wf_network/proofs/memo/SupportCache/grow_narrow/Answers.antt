use Rattle.std.proofs.Common.{All, None, sym, subst}
use Rattle.std.proofs.lemmas.List.Elements.{All-replicate}
use Rattle.wf_network.specs.Revising.{IsKnownParts}
use Rattle.wf_network.proofs.MemoLemmas.{all_known, narrow_known, none_alone, small_known, tiny_known, wide_known}
use Rattle.wf_network.proofs.memo.SupportCache.grow_narrow.Goals as goal

pub returns-in-Ok : goal.returns-in-Ok
returns-in-Ok c = λ ks known.
    let empty = c.in-Ok.ensures.items_if_clones_equal (none_alone _ (λ x never. never)) in
    let none : All (IsKnownParts ks) c.in-Ok.narrow.items = subst (All (IsKnownParts ks)) (sym empty) (All-replicate (IsKnownParts ks) c.slots_wanted-places.result None tt) in
    let old : All (IsKnownParts ks) c.deref.result.now = subst (All (IsKnownParts ks)) (sym c.deref.ensures.value) (narrow_known ks c.args.self.now known) in
    all_known ks _ _ _ _ (tiny_known ks c.args.self.now known) (small_known ks c.args.self.now known) (c.keep_each.ensures ks old none) (wide_known ks c.args.self.now known)
