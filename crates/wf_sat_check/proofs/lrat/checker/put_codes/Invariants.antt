use Rattle.std.proofs.Common.{◌≡◌, take}
use Rattle.wf_sat_check.specs.Lrat.Slots.{clause_of}
use Rattle.wf_sat_check.proofs.lrat.checker.put_codes.Given as goal

abbrev pub invariant-literals : goal.invariant-literals
invariant-literals l = clause_of l.codes.items ≡ take l.literal-index l.clause
