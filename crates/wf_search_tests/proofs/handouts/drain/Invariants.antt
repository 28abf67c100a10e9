use Rattle.std.proofs.Common.{ℕ}
use Rattle.wf_search_tests.proofs.handouts.drain.Given as goal

abbrev pub invariant-loop : goal.invariant-loop
invariant-loop g l = (k : ℕ) × g.H.Handout.fits l.handout k l.share
