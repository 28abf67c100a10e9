use Rattle.std.proofs.Common.{All, List}
use Rattle.wf_model.specs.Problem.{Constraint}
use Rattle.wf_network.specs.Revising.{IsKnownParts}
use Rattle.wf_network.proofs.memo.keep_each.Given as goal

abbrev pub invariant-loop-answer : goal.invariant-loop-answer
invariant-loop-answer l = (ks : List Constraint) → All (IsKnownParts ks) l.answers → All (IsKnownParts ks) l.initial.places.items → All (IsKnownParts ks) l.places.items
