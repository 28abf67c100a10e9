use Rattle.std.proofs.Common.{length, ◌-◌, ◌≤◌, take}
use Rattle.wf_base.specs.Streams.Texts.{Took}
use Rattle.wf_base.proofs.streams.sink.send.Given as goal

abbrev pub invariant-loop-written : goal.invariant-loop-written
invariant-loop-written g l = (l.written ≤ length l.text) × Took l.initial.sink l.sink (take l.written l.text) 0

abbrev pub decreases-loop-written : goal.decreases-loop-written
decreases-loop-written g l = length l.text - l.written
