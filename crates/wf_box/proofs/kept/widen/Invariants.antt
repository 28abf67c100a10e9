use Rattle.std.proofs.Common.{◌≡◌, ◌≤◌, length, map, take, vec_capacity}
use Rattle.wf_base.specs.Set.Parts.{part_values}
use Rattle.wf_base.specs.Set.Sets.{box_of}
use Rattle.wf_box.proofs.kept.widen.Given as goal

abbrev pub invariant-loop-part : goal.invariant-loop-part
invariant-loop-part l =
    record {
      values : box_of l.sets.items ≡ map part_values (take l.part-index l.parts);
      count : length l.sets.items ≡ l.part-index;
      room : length l.parts ≤ vec_capacity l.sets;
    }
