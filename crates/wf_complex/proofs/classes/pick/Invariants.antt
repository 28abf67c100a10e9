use Rattle.std.proofs.Common.{◌≡◌, take}
use Rattle.wf_complex.specs.Numbering.{picked}
use Rattle.wf_complex.proofs.classes.pick.Given as goal

abbrev pub invariant-loop-place : goal.invariant-loop-place
invariant-loop-place l = l.numbers.items ≡ picked l.ids (take l.place-index l.places)
