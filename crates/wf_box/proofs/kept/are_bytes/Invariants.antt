use Rattle.std.proofs.Common.{◌≡◌, true, take}
use Rattle.wf_box.specs.Kept.{are_bytes}
use Rattle.wf_box.proofs.kept.are_bytes.Given as goal

abbrev pub invariant-loop-part : goal.invariant-loop-part
invariant-loop-part l = are_bytes (take l.part-index l.parts) ≡ true
