use Rattle.wf_sat_check.proofs.OfStore.IndexLemmas.{HasFirst, buckets_of}
use Rattle.wf_sat_check.proofs.store.index.Index.grow.Given as goal

abbrev pub invariant-buckets : goal.invariant-buckets
invariant-buckets l = HasFirst l.larger (buckets_of l.bucket-items) l.bucket-index
