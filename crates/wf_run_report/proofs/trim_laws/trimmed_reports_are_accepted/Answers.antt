use Rattle.wf_run_report.proofs.TrimmedIsTrue.{trimmed_accepted}
use Rattle.wf_run_report.proofs.trim_laws.trimmed_reports_are_accepted.Goals as goal

pub returns : goal.returns
returns c = trimmed_accepted
