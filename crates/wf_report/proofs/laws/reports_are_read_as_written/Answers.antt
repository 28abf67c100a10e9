use Rattle.wf_report.proofs.WrittenLemmas.{written_read}
use Rattle.wf_report.proofs.laws.reports_are_read_as_written.Goals as goal

pub returns : goal.returns
returns c = written_read
