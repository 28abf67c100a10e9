use Rattle.std.proofs.Common.{arith}
use Rattle.wf_sat_check.proofs.OfStore.IndexLemmas.{found-put, place-within, still-put, still-same}
use Rattle.wf_sat_check.proofs.store.index.Index.put.Goals as goal

pub returns-in_err-push-clause-still : goal.returns-in_err-push-clause-still
returns-in_err-push-clause-still c =
    let vs = c.self.inside.buckets in
    still-same vs.items c.args.self.now _ c.index_mut.result.now c.push.new.self c.self.view_is
    (place-within vs.items c.args.entry.hash c.len.result (omega (arith, vs.ok.0)) c.self.invariant) c.index_mut.ensures.value c.in_err-push.ensures.items

pub returns-clause-found : goal.returns-clause-found
returns-clause-found c =
    let vs = c.self.inside.buckets in
    found-put vs.items c.len.result c.args.entry c.index_mut.result.now c.push.new.self (omega (arith, vs.ok.0)) c.self.invariant
    c.index_mut.ensures.value (c.in_ok-push.ensures.items)

pub returns-clause-still : goal.returns-clause-still
returns-clause-still c =
    let vs = c.self.inside.buckets in
    still-put vs.items c.args.self.now c.len.result c.args.entry c.index_mut.result.now c.push.new.self c.self.view_is (omega (arith, vs.ok.0)) c.self.invariant
    c.index_mut.ensures.value (c.in_ok-push.ensures.items)
