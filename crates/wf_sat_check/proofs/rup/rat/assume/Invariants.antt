use Rattle.std.proofs.Common.{◌≡◌, true, false, length, take}
use Rattle.wf_sat_text.specs.Clauses.Formula.{Assignment}
use Rattle.wf_sat_text.specs.Drat.Codes.{hold_codes, satisfies_codes}
use Rattle.wf_sat_check.specs.Rup.Settled.{IsFalseOn}
use Rattle.wf_sat_check.proofs.rup.rat.assume.Given as goal

abbrev pub invariant-loop-literal : goal.invariant-loop-literal
invariant-loop-literal l = record {
  front : take (length l.initial.trail) l.trail ≡ l.initial.trail;
  forced : (a : Assignment) → hold_codes a l.initial.trail ≡ true
      → satisfies_codes a (take l.literal-index l.candidate.clause.now) ≡ false → hold_codes a l.trail ≡ true;
  negated : IsFalseOn l.trail (take l.literal-index l.candidate.clause.now);
}
