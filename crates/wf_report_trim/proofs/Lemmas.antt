-- What the crates above may use of these proofs.
pub use Rattle.wf_report_trim.proofs.Executions.{length-on}
pub use Rattle.wf_report_trim.proofs.Lifts.{lifts_by}
pub use Rattle.wf_report_trim.proofs.Places.{MadeOf, as_many_numbers, begun, begun_by, made_of, made_there, there_within}
