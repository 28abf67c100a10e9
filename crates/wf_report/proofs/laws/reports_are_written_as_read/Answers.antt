use Rattle.wf_report.proofs.ReadBackLemmas.{read_written}
use Rattle.wf_report.proofs.laws.reports_are_written_as_read.Goals as goal

pub returns : goal.returns
returns c = read_written
