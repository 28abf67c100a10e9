use Rattle.std.proofs.Common.{◌≡◌, drop, length, take}
use Rattle.wf_sat_check.specs.Lrat.Slots.{AreLaid, ArePacked, slots_in}
use Rattle.wf_sat_check.proofs.lrat.packing.pack.Given as goal

abbrev pub invariant-places : goal.invariant-places
invariant-places l = record {
  packed : ArePacked l.arena.items 0 (take l.number l.places) l.end;
  laid : AreLaid l.arena.items l.end (drop l.number l.places) (length l.arena.items);
  same : slots_in l.arena.items l.places ≡ slots_in l.initial.arena.items l.initial.places;
}
