use Rattle.wf_run_branches.proofs.Lines.{IsSized}
use Rattle.wf_run_branches.proofs.listing.BoxSize.of.Given as goal

abbrev pub invariant-loop-point : goal.invariant-loop-point
invariant-loop-point l = IsSized l.boxed.sets l.point l.size.open l.size.candidates
