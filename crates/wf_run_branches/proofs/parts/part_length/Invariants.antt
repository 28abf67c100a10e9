use Rattle.std.proofs.Common.{◌≡◌, ◌+◌, drop}
use Rattle.wf_run_branches.specs.Joining.{part_length}
use Rattle.wf_run_branches.proofs.parts.part_length.Given as goal

abbrev pub invariant-loop-at : goal.invariant-loop-at
invariant-loop-at l = part_length l.text ≡ l.at + part_length (drop l.at l.text)
