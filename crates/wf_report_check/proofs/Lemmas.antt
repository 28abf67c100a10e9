-- What the crates above may use of these proofs.
pub use Rattle.wf_report_check.proofs.KeptValues.{fails_first}
pub use Rattle.wf_report_check.proofs.TruthLemmas.{faultless_is_true}
