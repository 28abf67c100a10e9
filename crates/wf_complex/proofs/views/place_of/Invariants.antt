use Rattle.std.proofs.Common.{◌<◌, All, take}
use Rattle.wf_complex.proofs.views.place_of.Given as goal

abbrev pub invariant-loop-place : goal.invariant-loop-place
invariant-loop-place l = All (λ n. n < l.number) (take l.place l.numbers)
