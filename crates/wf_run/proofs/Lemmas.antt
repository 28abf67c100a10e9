-- What the crates above may use of these proofs.
pub use Rattle.wf_run.proofs.Counts.{Told, beyond, counted, few, handed, judged, quiet}
pub use Rattle.wf_run.proofs.GivenTask.{task_read}
pub use Rattle.wf_run.proofs.RunsInPieces.{IsRefusal, beyond_build, broken, refused, written}
pub use Rattle.wf_run.proofs.RunsOverTwoSources.{IsReadCounted, counted_over_two, done}
pub use Rattle.wf_run.proofs.SourceCounts.{IsReportCounted, both_counted, left_alone}
