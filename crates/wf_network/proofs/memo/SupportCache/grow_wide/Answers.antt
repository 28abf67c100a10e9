use Rattle.std.proofs.Common.{All, None, sym, subst}
use Rattle.std.proofs.lemmas.List.Elements.{All-replicate}
use Rattle.wf_network.specs.Revising.{IsKnown}
use Rattle.wf_network.proofs.MemoLemmas.{all_known, narrow_known, none_alone, small_known, tiny_known}
use Rattle.wf_network.proofs.memo.SupportCache.grow_wide.Goals as goal

pub returns-in-Ok : goal.returns-in-Ok
returns-in-Ok c = λ ks known.
    let empty = c.in-Ok.ensures.items_if_clones_equal (none_alone _ (λ x never. never)) in
    let none : All (IsKnown ks) c.in-Ok.wide.items = subst (All (IsKnown ks)) (sym empty) (All-replicate (IsKnown ks) c.slots_wanted-places.result None tt) in
    all_known ks _ _ _ _ (tiny_known ks c.args.self.now known) (small_known ks c.args.self.now known) (narrow_known ks c.args.self.now known) none
