use Rattle.std.proofs.Common.{All, sym, subst}
use Rattle.std.proofs.lemmas.List.Elements.{All-replicate}
use Rattle.wf_network.specs.Revising.{IsKnownNibbles}
use Rattle.wf_network.specs.declared.memo.TheConstants.{NO_NIBBLES}
use Rattle.wf_network.proofs.MemoLemmas.{all_known, narrow_known, small_known, tiny_known, wide_known}
use Rattle.wf_network.proofs.memo.SupportCache.grow_tiny.Goals as goal

pub returns-in-Ok : goal.returns-in-Ok
returns-in-Ok c = λ ks known.
    let none : All (IsKnownNibbles ks) c.in-Ok.tiny.items = subst (All (IsKnownNibbles ks)) (sym (c.in-Ok.ensures.items_if_clones_equal (λ y same. same))) (All-replicate (IsKnownNibbles ks) c.slots_wanted-places.result NO_NIBBLES tt) in
    let old : All (IsKnownNibbles ks) c.deref.result.now = subst (All (IsKnownNibbles ks)) (sym c.deref.ensures.value) (tiny_known ks c.args.self.now known) in
    all_known ks _ _ _ _ (c.keep_tiny.ensures ks old none) (small_known ks c.args.self.now known) (narrow_known ks c.args.self.now known) (wide_known ks c.args.self.now known)
