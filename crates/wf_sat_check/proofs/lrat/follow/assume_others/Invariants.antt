use Rattle.std.proofs.Common.{◌≡◌, drop, length, take}
use Rattle.wf_sat_text.specs.Drat.Codes.{literal_of}
use Rattle.wf_sat_check.specs.Lrat.Hints.{others_than, with_false}
use Rattle.wf_sat_check.specs.Lrat.Slots.{clause_of}
use Rattle.wf_sat_check.proofs.lrat.follow.assume_others.Given as goal

abbrev pub invariant-literals : goal.invariant-literals
invariant-literals l = record {
  front : take (length l.initial.trail) l.trail ≡ l.initial.trail;
  same : with_false (clause_of l.initial.trail) (others_than (literal_of l.aside) (clause_of l.clause))
      ≡ with_false (clause_of l.trail) (others_than (literal_of l.aside) (clause_of (drop l.literal-index l.clause)));
}
