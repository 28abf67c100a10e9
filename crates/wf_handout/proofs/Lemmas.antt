-- What the crates above may use of these proofs.
pub use Rattle.wf_handout.proofs.Places.{all_pushed, all_set}
