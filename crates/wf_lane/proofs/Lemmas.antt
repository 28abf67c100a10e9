-- What the crates above may use of these proofs.
pub use Rattle.wf_lane.proofs.BoxLaws.{few_values}
pub use Rattle.wf_lane.proofs.SupportLaws.{lacking_values}
