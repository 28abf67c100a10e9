use Rattle.std.proofs.Common.{◌≡◌, drop}
use Rattle.wf_sat_text.specs.Drat.Codes.{literal_of}
use Rattle.wf_sat_check.specs.Lrat.Hints.{is_on}
use Rattle.wf_sat_check.specs.Lrat.Slots.{clause_of}
use Rattle.wf_sat_check.proofs.lrat.scan.has_code.Given as goal

abbrev pub invariant-literals : goal.invariant-literals
invariant-literals l = is_on (clause_of l.clause) (literal_of l.wanted) ≡ is_on (clause_of (drop l.literal-index l.clause)) (literal_of l.wanted)
