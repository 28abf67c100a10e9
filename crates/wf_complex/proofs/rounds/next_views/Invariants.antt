use Rattle.std.proofs.Common.{◌≡◌, ◌≤◌, ◌<◌, ◌+◌, All, length, take}
use Rattle.wf_model.specs.View.{round}
use Rattle.wf_complex.specs.Rounds.{views_at, Extends, AreKnown}
use Rattle.wf_complex.proofs.rounds.next_views.Given as goal

abbrev pub invariant-loop-i : goal.invariant-loop-i
invariant-loop-i l = record {
  four : length l.next ≡ 4;
  extends : Extends l.initial.views l.views;
  few : length l.views ≤ length l.initial.views + l.i;
  known : AreKnown l.views (views_at l.initial.views l.current) l.known;
  within : All (λ k. k < length l.views) (take l.i l.next);
  made : views_at l.views (take l.i l.next) ≡ take l.i (round (views_at l.initial.views l.current) l.sight.word);
}
