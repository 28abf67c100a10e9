use Rattle.wf_network.proofs.memo.SupportCache.grow.Goals as goal

pub returns : goal.returns
returns c = λ ks known. c.grow_wide.ensures ks (c.grow_narrow.ensures ks (c.grow_small.ensures ks (c.grow_tiny.ensures ks known)))
