use Rattle.std.proofs.Common.{◌≡◌, ◌<◌, ◌≤◌, ◌+◌, ◌*◌, All, length, map, take}
use Rattle.wf_model.specs.View.{normal}
use Rattle.wf_complex.specs.Rounds.{views_at, Extends}
use Rattle.wf_complex.proofs.classes.anonymous_views.Given as goal
use Rattle.wf_complex.specs.Classes.{most_within}

abbrev pub invariant-loop-id : goal.invariant-loop-id
invariant-loop-id l = record {
  extends : Extends l.initial.views l.views;
  few : length l.views ≤ length l.initial.views + most_within * l.id-index;
  within : All (λ k. k < length l.views) l.normals.items;
  made : views_at l.views l.normals.items ≡ map normal (views_at l.initial.views (take l.id-index l.ids));
}
