use Rattle.wf_run_report.proofs.ExplainCounts.{explained_counted}
use Rattle.wf_run_report.proofs.explain_laws.explaining_is_counted.Goals as goal

pub returns : goal.returns
returns c = explained_counted
