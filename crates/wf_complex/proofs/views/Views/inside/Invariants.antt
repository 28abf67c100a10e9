use Rattle.std.proofs.Common.{length, reverse}
use Rattle.wf_complex.proofs.CollectedViews.{IsCollecting, first_of}
use Rattle.wf_complex.proofs.views.Views.inside.Given as goal

abbrev pub invariant-loop-greatest : goal.invariant-loop-greatest
invariant-loop-greatest l = IsCollecting l.self l.id l.open.items (reverse l.inside.items)

abbrev pub decreases-loop-greatest : goal.decreases-loop-greatest
decreases-loop-greatest l = first_of (length l.self) (reverse l.inside.items)
