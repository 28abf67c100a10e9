use Rattle.wf_network.specs.Revising.{AreSame, found_at}
use Rattle.wf_box.proofs.candidates.ArrayMask4Candidates.are_left.Given as goal

abbrev pub invariant-loop-place : goal.invariant-loop-place
invariant-loop-place l = AreSame l.place (found_at l.execution l.sets) l.fn.self
