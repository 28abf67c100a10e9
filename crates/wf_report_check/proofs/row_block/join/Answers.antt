use Rattle.wf_report_check.proofs.RowBlockLemmas.{has-joined}
use Rattle.wf_report_check.proofs.row_block.join.Goals as goal

pub returns : goal.returns
returns c = has-joined c.args.rows c.args.others
