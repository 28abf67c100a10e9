use Rattle.std.proofs.Common.{take}
use Rattle.wf_sat_check.specs.Store.Index.{FindsEach, FindsStill}
use Rattle.wf_sat_check.proofs.store.index.Index.put_all.Given as goal

abbrev pub invariant-entries : goal.invariant-entries
invariant-entries l = record {
  found : FindsEach l.self (take l.entry-index l.entries);
  still : FindsStill l.initial.self l.self;
}
