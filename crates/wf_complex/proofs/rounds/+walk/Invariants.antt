use Rattle.std.proofs.Common.{◌≡◌, ◌<◌, ◌≤◌, ◌+◌, ◌-◌, ◌*◌, ◌++◌, All, length, take, flat_map}
use Rattle.wf_model.specs.View.{round}
use Rattle.wf_complex.specs.Rounds.{views_at, words_in, Extends, AreKnown, leaves, cost}
use Rattle.wf_complex.proofs.rounds.+walk.Given as goal

abbrev pub decreases-walk : goal.decreases-walk
decreases-walk l = l.rounds

abbrev pub invariant-loop-sight : goal.invariant-loop-sight
invariant-loop-sight l = record {
  extends : Extends l.initial.views l.views;
  added : length l.views ≤ length l.initial.views + l.sight-index * (length l.current + cost (length l.sights) (length l.current) (l.rounds - 1));
  known : AreKnown l.views (views_at l.initial.views l.current) l.known;
  within : All (λ k. k < length l.views) l.lasts.items;
  made : views_at l.views l.lasts.items
      ≡ views_at l.initial.views l.initial.lasts.items ++ flat_map (λ w. leaves (words_in l.sights) (l.rounds - 1) (round (views_at l.initial.views l.current) w)) (take l.sight-index (words_in l.sights));
}
