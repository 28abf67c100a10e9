-- What the crates above may use of these proofs.
pub use Rattle.wf_cli.proofs.OfWords.AddedOptions.{taken}
pub use Rattle.wf_cli.proofs.OfWords.ParsedWords.{on_file, refused_answered, taken_answered}
