-- What the crates above may use of these proofs.
pub use Rattle.wf_task_parse.proofs.Texts.{json_of-some}
