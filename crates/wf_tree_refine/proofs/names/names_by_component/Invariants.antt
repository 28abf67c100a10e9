use Rattle.std.proofs.Common.{◌≡◌, length, map, slice_index, take}
use Rattle.wf_tree_refine.proofs.names.names_by_component.Given as goal

abbrev pub invariant-numbers : goal.invariant-numbers
invariant-numbers l = record {
  items : l.each.items ≡ map (slice_index l.names) (take l.number-index l.numbers);
  room : l.each.cap ≡ length l.numbers;
}
