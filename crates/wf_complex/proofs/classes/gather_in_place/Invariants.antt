use Rattle.std.proofs.Common.{◌≡◌, drop, take, vec_len}
use Rattle.wf_complex.specs.Numbering.{picked}
use Rattle.wf_complex.proofs.classes.gather_in_place.Given as goal

abbrev pub invariant-loop-i : goal.invariant-loop-i
invariant-loop-i l = record {
  long : vec_len l.numbers ≡ vec_len l.fn.places;
  left : drop l.i l.numbers.items ≡ drop l.i l.fn.places.items;
  made : take l.i l.numbers.items ≡ picked l.ids (take l.i l.fn.places.items);
}
