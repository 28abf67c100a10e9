-- What the crates above may use of these proofs.
pub use Rattle.wf_box.proofs.QuietLemmas.{on_true}
pub use Rattle.wf_box.proofs.SeenLemmas.{after_grown, after_undone, closed_undone, grown_trail, known_none, still_closed}
