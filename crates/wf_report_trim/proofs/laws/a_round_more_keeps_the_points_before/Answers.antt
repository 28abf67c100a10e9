use Rattle.wf_report_trim.proofs.Lifts.{without_last}
use Rattle.wf_report_trim.proofs.laws.a_round_more_keeps_the_points_before.Goals as goal

pub returns : goal.returns
returns c = without_last
