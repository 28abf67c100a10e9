-- What was read of a source that gives a report.
use Rattle.std.proofs.Common.{Ok, Err, sym, ap, subst, ◌∙◌}
use Rattle.wf_model.specs.Limits.{most_bytes}
use Rattle.wf_model.specs.Task.{Task}
use Rattle.wf_model.specs.Report.{Report, report_of}
use Rattle.wf_base.specs.Streams.Seen.{Reading}
use Rattle.wf_base.specs.Streams.Texts.{Gave}
use Rattle.wf_run_verify.proofs.Lemmas.{written_as_read}
use Rattle.wf_run.specs.Run.{Reads}
use Rattle.wf_run.specs.Texts.{text_of_report}
use Rattle.wf_run_verify.specs.Verify.{IsFaultless, IsReportOf}

-- the source gave the text of a report that is accepted
pub gave_report : (old new : Reading) (t : Task) (r : Report) → Reads (IsReportOf most_bytes) old new (Ok r) → IsFaultless t r → Gave old new (text_of_report t r.rounds r.body) 0
gave_report old new t r (Ok text, (given, gave, is), judged) faultless =
    subst (λ x. Gave old new x 0) (written_as_read given t r (ap report_of (sym is.0) ∙ judged) faultless) gave
gave_report old new t r (Err e, reads, judged) faultless = absurd (let bad : ⊥ = cc in bad)
