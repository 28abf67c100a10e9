use Rattle.std.proofs.Common.{ap, sym, subst, ◌∙◌}
use Rattle.wf_sat_check.specs.Store.Index.{FindsStill}
use Rattle.wf_sat_check.proofs.OfStore.IndexLemmas.{buckets_of, first-all, first-more}
use Rattle.wf_sat_check.proofs.store.index.Index.grow.Goals as goal

pub buckets-preserved : goal.buckets-preserved
buckets-preserved c =
    first-more c.deref-bucket-items.result.now c.buckets.larger c.put_all.new.self c.buckets.bucket-index c.bucket-item.result c.deref.result.now c.buckets-test.true
    c.bucket-item.is c.deref.ensures.value c.put_all.ensures.still c.in_ok-put_all.ensures.found c.buckets.invariant

pub returns : goal.returns
returns c =
    subst (FindsStill c.args.self.now) (sym c.larger-2.view_is)
    (first-all c.deref-bucket-items.result.now c.args.self.now c.buckets.larger c.buckets.bucket-index
    (ap buckets_of c.deref-bucket-items.ensures.value ∙ c.self.view_is) c.buckets-test.false c.buckets.invariant)
