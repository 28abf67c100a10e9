-- What the crates above may use of these proofs.
pub use Rattle.wf_run_solve.proofs.AnswersOfSearches.{and_more, kept_shown, map_account, map_verdict, none_shown, none_verdict}
