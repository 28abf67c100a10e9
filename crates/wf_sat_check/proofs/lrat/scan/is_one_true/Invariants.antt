use Rattle.std.proofs.Common.{◌≡◌, drop}
use Rattle.std.specs.List.{list_any}
use Rattle.wf_sat_check.specs.Lrat.Hints.{is_on}
use Rattle.wf_sat_check.specs.Lrat.Slots.{clause_of}
use Rattle.wf_sat_check.proofs.lrat.scan.is_one_true.Given as goal

abbrev pub invariant-literals : goal.invariant-literals
invariant-literals l = list_any (is_on (clause_of l.trail)) (clause_of l.clause) ≡ list_any (is_on (clause_of l.trail)) (clause_of (drop l.literal-index l.clause))
