use Rattle.wf_complex.proofs.Ranked.{IsRenaming}
use Rattle.wf_complex.proofs.views.Views.normal.Given as goal

abbrev pub invariant-loop-old : goal.invariant-loop-old
invariant-loop-old l = IsRenaming l.fn.self l.self l.processes l.old-items l.numbers.items l.old-index
