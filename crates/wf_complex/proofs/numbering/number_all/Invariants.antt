use Rattle.std.proofs.Common.{◌≡◌, drop, take, vec_len}
use Rattle.wf_complex.specs.Numbering.{picked}
use Rattle.wf_complex.proofs.FirstPlaces.{Kept}
use Rattle.wf_complex.proofs.numbering.number_all.Given as goal

abbrev pub invariant-loop-i : goal.invariant-loop-i
invariant-loop-i l = record {
  numbers : vec_len l.numbers ≡ l.bound;
  long : vec_len l.places ≡ vec_len l.fn.ids;
  left : drop l.i l.places.items ≡ drop l.i l.fn.ids.items;
  kept : Kept l.fn.ids.items l.i l.firsts.items l.numbers.items (take l.i l.places.items);
  different : l.different.items ≡ picked l.fn.ids.items l.firsts.items;
}
