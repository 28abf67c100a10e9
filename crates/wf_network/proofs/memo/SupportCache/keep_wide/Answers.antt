use Rattle.std.proofs.Common.{Some}
use Rattle.std.proofs.lemmas.List.Elements.{All-set}
use Rattle.wf_network.specs.Revising.{IsKnown}
use Rattle.wf_network.proofs.MemoLemmas.{all_known, narrow_known, small_known, tiny_known, wide_known}
use Rattle.wf_network.proofs.memo.SupportCache.keep_wide.Goals as goal

pub returns-then-place-len : goal.returns-then-place-len
returns-then-place-len c = λ ks new known.
    all_known ks _ _ _ _ (tiny_known ks c.args.self.now known) (small_known ks c.args.self.now known) (narrow_known ks c.args.self.now known) (All-set (IsKnown ks) c.args.self.now.wide.items c.args.place (Some c.args.answer) new (wide_known ks c.args.self.now known))
