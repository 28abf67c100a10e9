use Rattle.wf_model.proofs.WholeReports.{map_accepted, refutation_accepted, least_tree_accepted, canonical_none_accepted, canonical_least_accepted}
use Rattle.wf_model.proofs.reports.true_reports_are_accepted.Goals as goal

pub returns : goal.returns
returns c = record {
  map = map_accepted;
  refutation = refutation_accepted;
  least_tree = least_tree_accepted;
  canonical_none = canonical_none_accepted;
  canonical_least = canonical_least_accepted;
}
