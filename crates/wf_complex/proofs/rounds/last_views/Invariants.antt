use Rattle.std.proofs.Common.{◌≡◌, ◌≤◌, ◌<◌, ◌+◌, All, length, take, drop, flat_map}
use Rattle.wf_complex.specs.Rounds.{views_at, Extends, IsRound, leaves_of, cost_of_each}
use Rattle.wf_complex.proofs.rounds.last_views.Given as goal

abbrev pub invariant-loop-simplex : goal.invariant-loop-simplex
invariant-loop-simplex l = record {
  extends : Extends l.initial.views l.views;
  room : length l.views + cost_of_each l.plan.first_block l.plan.rounds (drop l.simplex-index l.simplices) ≤ length l.initial.views + cost_of_each l.plan.first_block l.plan.rounds l.simplices;
  prepared : IsRound l.plan.first_block l.round;
  within : All (λ k. k < length l.views) l.lasts.items;
  made : views_at l.views l.lasts.items ≡ flat_map (leaves_of l.plan.first_block l.plan.rounds) (take l.simplex-index l.simplices);
}
