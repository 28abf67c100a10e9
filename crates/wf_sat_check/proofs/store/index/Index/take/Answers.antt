use Rattle.std.proofs.Common.{arith}
use Rattle.wf_sat_check.proofs.OfStore.IndexLemmas.{still-taken}
use Rattle.wf_sat_check.proofs.store.index.Index.take.Goals as goal

pub returns : goal.returns
returns c = λ entry this.
    let vs = c.self.inside.buckets in
    still-taken vs.items c.args.self.now c.args.hash c.len.result c.args.place c.index_mut.result.now c.swap_remove.new.self c.swap_remove.result entry
    c.self.view_is (omega (arith, vs.ok.0)) c.self.invariant c.index_mut.ensures.value c.requires c.swap_remove.ensures.value c.swap_remove.ensures.items this
