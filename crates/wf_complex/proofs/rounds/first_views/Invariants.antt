use Rattle.std.proofs.Common.{◌≡◌, ◌≤◌, ◌<◌, ◌+◌, All, length, take}
use Rattle.wf_model.specs.View.{base_views}
use Rattle.wf_complex.specs.Rounds.{views_at, Extends}
use Rattle.wf_complex.proofs.rounds.first_views.Given as goal

abbrev pub invariant-loop-place : goal.invariant-loop-place
invariant-loop-place l = record {
  four : length l.ids ≡ 4;
  extends : Extends l.initial.views l.views;
  few : length l.views ≤ length l.initial.views + l.place;
  within : All (λ k. k < length l.views) (take l.place l.ids);
  made : views_at l.views (take l.place l.ids) ≡ take l.place (base_views l.simplex);
}
