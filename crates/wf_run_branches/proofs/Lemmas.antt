-- What the crates above may use of these proofs.
pub use Rattle.wf_run_branches.proofs.CheckedParts.{part_checked}
pub use Rattle.wf_run_branches.proofs.Counts.{branch_counted, branch_proved}
pub use Rattle.wf_run_branches.proofs.HintedBranches.{branch_proved_by_hints}
pub use Rattle.wf_run_branches.proofs.JoinedTruth.{joining_counted}
