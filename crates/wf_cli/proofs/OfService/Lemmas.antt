-- What the crates above may use of these proofs.
pub use Rattle.wf_cli.proofs.OfService.DeclinedWords.{calls_of_fault, declined, has_status, none_failed, two_or_three}
pub use Rattle.wf_cli.proofs.OfService.FileCounts.{counted, unasked, without}
