use Rattle.std.proofs.Common.{◌≡◌, ◌≤◌, length, map, take, vec_capacity}
use Rattle.wf_base.specs.Set.Parts.{part_values}
use Rattle.wf_base.specs.Set.Sets.{box_of}
use Rattle.wf_box.proofs.kept.widen_bytes.Given as goal

abbrev pub invariant-loop-byte : goal.invariant-loop-byte
invariant-loop-byte l =
    record {
      values : box_of l.sets.items ≡ map part_values (take l.byte-index l.bytes);
      count : length l.sets.items ≡ l.byte-index;
      room : length l.bytes ≤ vec_capacity l.sets;
    }
