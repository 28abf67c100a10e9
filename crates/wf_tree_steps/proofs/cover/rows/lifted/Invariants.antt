use Rattle.std.proofs.Common.{◌≡◌, length, map, take}
use Rattle.wf_model.specs.Lists.{below}
use Rattle.wf_tree_model.specs.Covers.{moved}
use Rattle.wf_tree_model.specs.Tuples.{value_at}
use Rattle.wf_tree_steps.specs.Cover.LiftSeen.{lift_seen}
use Rattle.wf_tree_steps.proofs.cover.rows.lifted.Given as goal

abbrev pub invariant-places : goal.invariant-places
invariant-places l = record {
  room : length l.values ≡ 4;
  made : take l.place l.values ≡ map (λ p. (lift_seen l.lift).name (value_at l.row p) (moved (lift_seen l.lift) l.row (lift_seen l.lift).corner p l.sheet)) (below l.place);
}
