use Rattle.std.proofs.Common.{take}
use Rattle.wf_sat_check.specs.Store.FirstOccurrence.{IsLowered}
use Rattle.wf_sat_check.proofs.OfStore.FirstsLemmas.{AreNoted}
use Rattle.wf_sat_check.proofs.store.firsts.FirstOccurrence.note.Given as goal

abbrev pub invariant-literals : goal.invariant-literals
invariant-literals l = IsLowered l.initial.self l.self × AreNoted l.self (take l.literal-index l.clause) l.number
