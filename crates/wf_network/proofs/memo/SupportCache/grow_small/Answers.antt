use Rattle.std.proofs.Common.{All, sym, subst}
use Rattle.std.proofs.lemmas.List.Elements.{All-replicate}
use Rattle.wf_network.specs.Revising.{IsKnownWord}
use Rattle.wf_network.specs.declared.memo.TheConstants.{NO_WORD}
use Rattle.wf_network.proofs.MemoLemmas.{all_known, narrow_known, small_known, tiny_known, wide_known}
use Rattle.wf_network.proofs.memo.SupportCache.grow_small.Goals as goal

pub returns-in-Ok : goal.returns-in-Ok
returns-in-Ok c = λ ks known.
    let none : All (IsKnownWord ks) c.in-Ok.small.items = subst (All (IsKnownWord ks)) (sym (c.in-Ok.ensures.items_if_clones_equal (λ y same. same))) (All-replicate (IsKnownWord ks) c.slots_wanted-places.result NO_WORD tt) in
    let old : All (IsKnownWord ks) c.deref.result.now = subst (All (IsKnownWord ks)) (sym c.deref.ensures.value) (small_known ks c.args.self.now known) in
    all_known ks _ _ _ _ (tiny_known ks c.args.self.now known) (c.keep_words.ensures ks old none) (narrow_known ks c.args.self.now known) (wide_known ks c.args.self.now known)
