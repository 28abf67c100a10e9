use Rattle.std.proofs.Common.{◌≡◌, ◌++◌, flat_map, map}
use Rattle.std.specs.List.{AllByRecursion}
use Rattle.wf_model.specs.Outline.{opened}
use Rattle.wf_box.specs.Boxes.{ServeFor}
use Rattle.wf_search.specs.Outline.{IsClosedBox, IsJustClosed, gap_seen}
use Rattle.wf_search.proofs.outline.Outline.branch_each.Given as goal

abbrev pub invariant-loop-gap : goal.invariant-loop-gap
invariant-loop-gap l = record {
  boxes : AllByRecursion (IsClosedBox l.problem) (map (λ gap. gap.boxed.sets) l.gap-iterator.rest.items);
  closed : AllByRecursion (λ gap. IsJustClosed gap.boxed) l.gap-iterator.rest.items;
  answers : ServeFor l.problem l.answers;
  items : l.outline ++ flat_map (opened l.problem) (flat_map gap_seen l.gap-iterator.rest.items)
      ≡ flat_map (opened l.problem) (flat_map gap_seen l.initial.gap-iterator.rest.items);
}
