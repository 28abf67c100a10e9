use Rattle.std.proofs.Common.{◌≡◌, ◌≤◌, length, take, vec_capacity}
use Rattle.wf_box.proofs.kept.to_bytes.Given as goal

abbrev pub invariant-loop-part : goal.invariant-loop-part
invariant-loop-part l =
    record {
      bytes : l.bytes.items ≡ take l.part-index l.parts;
      room : length l.parts ≤ vec_capacity l.bytes;
    }
