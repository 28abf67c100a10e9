-- What the crates above may use of these proofs.
pub use Rattle.wf_run_obstruction.proofs.SearchRuns.{seeking_counted}
