-- What the crates above may use of these proofs.
pub use Rattle.wf_complex.proofs.Bounds.{suc_times}
pub use Rattle.wf_complex.proofs.DifferentViews.{length-distinct}
pub use Rattle.wf_complex.proofs.ExecutionAt.{as_many_constraints, known_points, right_there, rule_inside, rule_there, scope_is}
pub use Rattle.wf_complex.proofs.Executions.{length-executions, length-lists_of}
pub use Rattle.wf_complex.proofs.LayoutLemmas.{turns_here, words_some}
pub use Rattle.wf_complex.proofs.PackedLemmas.{four_all, four_long, four_part, zip_part}
pub use Rattle.wf_complex.proofs.RuleAt.{as_many_executions, constraint_there, got}
pub use Rattle.wf_complex.proofs.ViewTexts.{and_more}
pub use Rattle.wf_complex.proofs.WalkLemmas.{length_first, next_at}
