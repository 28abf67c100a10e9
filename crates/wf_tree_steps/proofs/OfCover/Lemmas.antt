-- What the crates above may use of these proofs.
pub use Rattle.wf_tree_steps.proofs.OfCover.Coverings.{exact}
