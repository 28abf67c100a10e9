use Rattle.std.proofs.Common.{◌≡◌, true, false, take}
use Rattle.wf_sat_text.specs.Clauses.Formula.{Assignment}
use Rattle.wf_sat_text.specs.Drat.Codes.{hold_codes, satisfies_codes}
use Rattle.wf_sat_check.proofs.rup.scan.unfalsified_literal.Given as goal

abbrev pub invariant-loop-literal : goal.invariant-loop-literal
invariant-loop-literal l = (a : Assignment) → hold_codes a l.trail ≡ true → satisfies_codes a (take l.literal-index l.clause) ≡ false
