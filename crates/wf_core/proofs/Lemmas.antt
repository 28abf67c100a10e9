-- What the crates above may use of these proofs.
pub use Rattle.wf_core.proofs.Counts.{length-ge_below, length-le_below, once_in, once_next, once_out, Contains-times, times-Contains, times-append, times_more, times_other, times_same, total-append, total_bound, total_le, total_one, total_set}
pub use Rattle.wf_core.proofs.StepInvariants.{min_cases}
pub use Rattle.wf_core.proofs.Places.{count-cons, length-places}
pub use Rattle.wf_core.proofs.Lists.{at_end, at_replicate, at_set, popped_has, popped_is, popped_length, put_at, set_at, set_else}
