-- What the crates above may use of these proofs.
pub use Rattle.wf_board.proofs.Seats.{settled-is_cut, settled-posted, settled-searched}
