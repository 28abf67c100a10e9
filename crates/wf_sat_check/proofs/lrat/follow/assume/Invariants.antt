use Rattle.std.proofs.Common.{◌≡◌, drop}
use Rattle.wf_sat_check.specs.Lrat.Hints.{with_false}
use Rattle.wf_sat_check.specs.Lrat.Slots.{clause_of}
use Rattle.wf_sat_check.proofs.lrat.follow.assume.Given as goal

abbrev pub invariant-literals : goal.invariant-literals
invariant-literals l = with_false (clause_of l.initial.trail) (clause_of l.clause) ≡ with_false (clause_of l.trail) (clause_of (drop l.literal-index l.clause))
