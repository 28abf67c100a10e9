use Rattle.std.proofs.Common.{Some}
use Rattle.std.proofs.lemmas.List.Elements.{All-set}
use Rattle.wf_network.specs.Revising.{IsKnownParts}
use Rattle.wf_network.proofs.MemoLemmas.{all_known, narrow_known, small_known, tiny_known, wide_known}
use Rattle.wf_network.proofs.memo.SupportCache.keep_narrow.Goals as goal

pub returns-then-place-len : goal.returns-then-place-len
returns-then-place-len c = λ ks new known.
    all_known ks _ _ _ _ (tiny_known ks c.args.self.now known) (small_known ks c.args.self.now known) (All-set (IsKnownParts ks) c.args.self.now.narrow.items c.args.place (Some c.args.answer) new (narrow_known ks c.args.self.now known)) (wide_known ks c.args.self.now known)
