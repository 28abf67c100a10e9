-- What the crates above may use of these proofs.
pub use Rattle.wf_run_report.proofs.ExplainCounts.{explained_counted}
pub use Rattle.wf_run_report.proofs.LiftCounts.{lifting_counted}
