-- What the crates above may use of these proofs.
pub use Rattle.wf_run_verify.proofs.CertificateCounts.{certified}
pub use Rattle.wf_run_verify.proofs.CertificatesAreTrue.{obstructions_true, reports_verified}
pub use Rattle.wf_run_verify.proofs.CheckCounts.{checked, judged_report, verified}
pub use Rattle.wf_run_verify.proofs.Headline.{about, acceptances_true, written_as_read}
pub use Rattle.wf_run_verify.proofs.HintCounts.{hinted_refutations_true, hints_counted, proved_by_hints}
pub use Rattle.wf_run_verify.proofs.ModelCounts.{modelled}
pub use Rattle.wf_run_verify.proofs.ModelsToReports.{own_rounds, passed}
pub use Rattle.wf_run_verify.proofs.Peeked.{least_most}
pub use Rattle.wf_run_verify.proofs.ProofCounts.{proof_counted, proved}
pub use Rattle.wf_run_verify.proofs.ProofsToLines.{refused, refused_so, told, untold}
pub use Rattle.wf_run_verify.proofs.RefutationsAreTrue.{refutations_true}
pub use Rattle.wf_run_verify.proofs.WrittenIsAccepted.{body_accepted, few_lines, map_text_accepted, unrefused}
pub use Rattle.wf_run_verify.proofs.WrittenReports.{AreSmall, HasSmallValue, KeepsSmall, branches_small, closing_small, least_within, line_small, map_within, none_within, root_small, small_least_within, small_none_within, step_small}
