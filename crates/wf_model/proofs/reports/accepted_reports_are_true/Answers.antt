use Rattle.wf_model.proofs.WholeReports.{numbers, map_decides, map_listed, lines_refute, lines_lead, least_listed}
use Rattle.wf_model.proofs.reports.accepted_reports_are_true.Goals as goal

pub returns : goal.returns
returns c = record {
  processes = λ t r report h. (numbers t r report h).processes;
  rounds = λ t r report h. (numbers t r report h).rounds;
  point_count = λ t r report h. (numbers t r report h).points;
  execution_count = λ t r report h. (numbers t r report h).executions;
  map = map_decides;
  listed_map = map_listed;
  no_map = lines_refute;
  least_map = lines_lead;
  listed_least_map = least_listed;
}
