use Rattle.std.proofs.Common.{◌≡◌, ◌+◌, ◌-◌, [], ◌∷◌, ◌++◌, drop, take, vec_len, vec_capacity}
use Rattle.wf_simplex.specs.Adding.{joined}
use Rattle.wf_simplex.proofs.simplex.add_joined.Given as goal

abbrev pub invariant-loop-place : goal.invariant-loop-place
invariant-loop-place l = record {
  added : l.faces.items ≡ l.fn.faces.items ++ ((l.process, l.value) ∷ []) ∷ joined (l.process, l.value) (take (l.place - l.start) (drop l.start l.fn.faces.items));
  count : vec_len l.faces + l.start ≡ l.end + 1 + l.place;
  capacity : vec_capacity l.faces ≡ vec_capacity l.fn.faces;
}
