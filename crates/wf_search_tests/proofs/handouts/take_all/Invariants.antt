use Rattle.std.proofs.Common.{◌≡◌, length}
use Rattle.wf_handout.specs.Shares.{AllAt}
use Rattle.wf_search_tests.proofs.handouts.take_all.Given as goal

abbrev pub invariant-loop-who : goal.invariant-loop-who
invariant-loop-who g l =
    (length l.shares.items ≡ g.H.Handout.worker_count l.handout) × AllAt (g.H.Handout.fits l.handout) l.shares.items
