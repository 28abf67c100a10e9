use Rattle.std.proofs.Common.{◌<◌, IfSome, length}
use Rattle.wf_tree_finder.proofs.cases.fewest_cases.Given as goal

-- a simplex that was found is one of the task at hand
abbrev pub invariant-simplices : goal.invariant-simplices
invariant-simplices g l = IfSome l.fewest (λ found. found.simplex < length l.rows)
