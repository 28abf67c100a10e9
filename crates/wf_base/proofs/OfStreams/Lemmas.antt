-- What the crates above may use of these proofs.
pub use Rattle.wf_base.proofs.OfStreams.FailedCalls.{failed, none_given}
pub use Rattle.wf_base.proofs.OfStreams.PagePieces.{IsPut, all_put, begun, can_go_on, last_put, left_off, passed_on, stopped, went_on}
