use Rattle.std.proofs.Common.{◌≡◌, ◌+◌, drop}
use Rattle.wf_tree_explain.proofs.Runs.{run_of}
use Rattle.wf_tree_explain.proofs.equations.line_length.Given as goal

abbrev pub invariant-loop-place : goal.invariant-loop-place
invariant-loop-place l = l.place + run_of l.first (drop l.place l.entries) ≡ run_of l.first l.entries
