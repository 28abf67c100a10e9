use Rattle.std.proofs.Common.{◌≡◌, map, take}
use Rattle.wf_sat_text.specs.Drat.Codes.{code_of}
use Rattle.wf_sat_check.proofs.rup.checker.put_codes.Given as goal

abbrev pub invariant-literals : goal.invariant-literals
invariant-literals l = l.codes.items ≡ map code_of (take l.literal-index l.clause)
