use Rattle.wf_report_trim.proofs.Lifts.{lifts, lifts_by, lifts_as_it_is, none_before}
use Rattle.wf_report_trim.proofs.laws.decision_maps_lift.Goals as goal

pub returns-clause-maps : goal.returns-clause-maps
returns-clause-maps c = lifts

pub returns-clause-as_they_are : goal.returns-clause-as_they_are
returns-clause-as_they_are c = lifts_as_it_is

pub returns-clause-none : goal.returns-clause-none
returns-clause-none c = none_before

pub returns-clause-by_rounds : goal.returns-clause-by_rounds
returns-clause-by_rounds c = lifts_by
