use Rattle.wf_sat_check.specs.Rup.Propagation.{Extends}
use Rattle.wf_sat_check.specs.Rup.Stored.{kept_of}
use Rattle.wf_sat_check.proofs.OfRup.SettledLemmas.{open_count}
use Rattle.wf_sat_check.proofs.rup.settled.settle.Given as goal

abbrev pub invariant-rounds : goal.invariant-rounds
invariant-rounds l = Extends (kept_of l.clauses) l.initial.trail l.trail

abbrev pub decreases-rounds : goal.decreases-rounds
decreases-rounds l = open_count l.trail (kept_of l.clauses)
