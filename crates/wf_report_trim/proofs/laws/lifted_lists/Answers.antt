use Rattle.wf_report_trim.proofs.Lifts.{lifted_listed, numbers_in_range, solution_lifts}
use Rattle.wf_report_trim.proofs.laws.lifted_lists.Goals as goal

pub returns-clause-listed : goal.returns-clause-listed
returns-clause-listed c = lifted_listed

pub returns-clause-points : goal.returns-clause-points
returns-clause-points c = numbers_in_range

pub returns-clause-solutions : goal.returns-clause-solutions
returns-clause-solutions c = solution_lifts
