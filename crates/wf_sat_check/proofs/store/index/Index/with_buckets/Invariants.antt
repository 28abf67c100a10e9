use Rattle.std.proofs.Common.{◌≡◌, vec_len}
use Rattle.wf_sat_check.proofs.store.index.Index.with_buckets.Given as goal

abbrev pub invariant-loop : goal.invariant-loop
invariant-loop l = vec_len l.buckets ≡ l.counter
