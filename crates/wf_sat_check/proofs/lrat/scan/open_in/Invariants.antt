use Rattle.std.proofs.Common.{◌≡◌, drop}
use Rattle.wf_sat_check.specs.Lrat.Hints.{open_literals}
use Rattle.wf_sat_check.specs.Lrat.Slots.{clause_of, opened_of}
use Rattle.wf_sat_check.proofs.OfLrat.HintLemmas.{joined}
use Rattle.wf_sat_check.proofs.lrat.scan.open_in.Given as goal

abbrev pub invariant-literals : goal.invariant-literals
invariant-literals l = opened_of (open_literals (clause_of l.trail) (clause_of l.clause)) ≡ joined l.opened (open_literals (clause_of l.trail) (clause_of (drop l.literal-index l.clause)))
