use Rattle.std.proofs.Common.{All, List}
use Rattle.wf_model.specs.Problem.{Constraint}
use Rattle.wf_network.specs.Revising.{IsKnownWord}
use Rattle.wf_network.proofs.memo.keep_words.Given as goal

abbrev pub invariant-loop-answer : goal.invariant-loop-answer
invariant-loop-answer l = (ks : List Constraint) → All (IsKnownWord ks) l.answers → All (IsKnownWord ks) l.initial.places.items → All (IsKnownWord ks) l.places.items
