use Rattle.std.proofs.Common.{◌≡◌, true, take}
use Rattle.wf_sat_text.specs.Clauses.Formula.{Assignment}
use Rattle.wf_sat_text.specs.Drat.Codes.{hold_codes, holds_code, satisfies_codes}
use Rattle.wf_sat_check.proofs.rup.scan.other_open_literal.Given as goal

abbrev pub invariant-loop-literal : goal.invariant-loop-literal
invariant-loop-literal l = (a : Assignment) → hold_codes a l.trail ≡ true → satisfies_codes a (take l.literal-index l.clause) ≡ true → holds_code a l.known ≡ true
