use Rattle.std.proofs.Common.{All, List}
use Rattle.wf_model.specs.Problem.{Constraint}
use Rattle.wf_network.specs.Revising.{IsKnownNibbles}
use Rattle.wf_network.proofs.memo.keep_tiny.Given as goal

abbrev pub invariant-loop-answer : goal.invariant-loop-answer
invariant-loop-answer l = (ks : List Constraint) → All (IsKnownNibbles ks) l.answers → All (IsKnownNibbles ks) l.initial.places.items → All (IsKnownNibbles ks) l.places.items
