use Rattle.std.proofs.Common.{◌≡◌, drop}
use Rattle.std.specs.List.{list_any}
use Rattle.wf_sat_text.specs.Drat.Codes.{literal_of}
use Rattle.wf_sat_check.specs.Lrat.Hints.{is_on, others_than}
use Rattle.wf_sat_check.specs.Lrat.Slots.{clause_of}
use Rattle.wf_sat_check.proofs.lrat.scan.is_other_true.Given as goal

abbrev pub invariant-literals : goal.invariant-literals
invariant-literals l = list_any (is_on (clause_of l.trail)) (others_than (literal_of l.aside) (clause_of l.clause))
    ≡ list_any (is_on (clause_of l.trail)) (others_than (literal_of l.aside) (clause_of (drop l.literal-index l.clause)))
