-- What the crates above may use of these proofs.
pub use Rattle.wf_tree_steps.proofs.OfBalance.Faults.{exact}
pub use Rattle.wf_tree_steps.proofs.OfBalance.Inputs.{input_is, input_same}
