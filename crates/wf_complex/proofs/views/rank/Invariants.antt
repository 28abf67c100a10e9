use Rattle.std.proofs.Common.{◌≡◌}
use Rattle.wf_complex.specs.Renaming.{rank_in}
use Rattle.wf_complex.proofs.views.rank.Given as goal

abbrev pub invariant-loop-lower : goal.invariant-loop-lower
invariant-loop-lower l = l.rank ≡ rank_in l.processes l.lower
