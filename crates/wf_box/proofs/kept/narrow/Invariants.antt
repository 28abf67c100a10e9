use Rattle.std.proofs.Common.{◌≡◌, ◌≤◌, nat_lt, filter, length, map, take, vec_capacity}
use Rattle.wf_base.specs.Set.Parts.{part_limit, part_values}
use Rattle.wf_base.specs.Set.Sets.{values_in}
use Rattle.wf_box.proofs.kept.narrow.Given as goal

abbrev pub invariant-loop-set : goal.invariant-loop-set
invariant-loop-set l =
    record {
      values : map part_values l.parts.items ≡ map (λ set. filter (λ v. nat_lt v part_limit) (values_in set)) (take l.set-index l.sets);
      count : length l.parts.items ≡ l.set-index;
      room : length l.sets ≤ vec_capacity l.parts;
    }
