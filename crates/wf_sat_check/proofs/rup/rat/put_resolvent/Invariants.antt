use Rattle.std.proofs.Common.{◌≡◌, take}
use Rattle.wf_sat_check.specs.Rup.Rat.{resolvent_of}
use Rattle.wf_sat_check.proofs.rup.rat.put_resolvent.Given as goal

abbrev pub invariant-literals : goal.invariant-literals
invariant-literals l = l.resolvent.items ≡ resolvent_of l.lemma l.negation (take l.literal-index l.clause)
