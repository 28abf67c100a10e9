use Rattle.std.proofs.lemmas.List.Elements.{All-set}
use Rattle.wf_network.specs.Revising.{IsKnownWord}
use Rattle.wf_network.proofs.MemoLemmas.{all_known, narrow_known, small_known, tiny_known, wide_known}
use Rattle.wf_network.proofs.memo.SupportCache.keep_small.Goals as goal

pub returns-then-place-len : goal.returns-then-place-len
returns-then-place-len c = λ ks new known.
    all_known ks _ _ _ _ (tiny_known ks c.args.self.now known) (All-set (IsKnownWord ks) c.args.self.now.small.items c.args.place c.args.answer new (small_known ks c.args.self.now known)) (narrow_known ks c.args.self.now known) (wide_known ks c.args.self.now known)
