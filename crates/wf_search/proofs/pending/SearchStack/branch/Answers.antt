use Rattle.std.proofs.Common.{◌≡◌, ◌<◌, ◌≤◌, ◌∙◌, ◌∷◌, ap, sym, subst, arith, length}
use Rattle.std.specs.List.{AllByRecursion}
use Rattle.wf_model.specs.Box.{candidates}
use Rattle.wf_base.specs.Set.Sets.{values_in}
use Rattle.wf_box.specs.Boxes.{box_after}
use Rattle.wf_box.proofs.Lemmas.{after_grown}
use Rattle.wf_search.specs.declared.pending.Frame.{Frame}
use Rattle.wf_search.specs.SearchStack.{AreEarlier, Boxes, IsFrame, all_left, first, first_branched}
use Rattle.wf_search.proofs.PendingLemmas.{all_earlier, branched, each_and_last, earlier_and_last, frame_new, frames_grown, last_state, left_grown}
use Rattle.wf_search.proofs.pending.SearchStack.branch.Goals as goal

pub invariant_of-self-2 : goal.invariant_of-self-2
invariant_of-self-2 c =
    let p = c.self.inside.problem.now in
    let old = c.self.inside.current in
    let new = c.set.new.self in
    let fs = c.self.inside.frames.items in
    let f : Frame = record { mark = c.mark.result; point = c.args.point; left = c.split-parts.result.1 } in
    let many = subst (λ (b : Boxes). 1 < length (candidates (first b.boxes) c.args.point)) (sym c.self.view_is) c.requires in
    let this = frame_new p old new f c.split-parts.result.0 (values_in c.candidates-values.result) c.set.ensures.grown c.self.invariant.current c.mark.ensures.changes c.mark.ensures.closed c.candidates-values.ensures
    c.split-parts.ensures many in
    record {
      current = c.set.ensures.is p c.self.invariant.current;
      frames = subst (AllByRecursion (IsFrame p new)) (sym c.in_ok-push.ensures.items) (each_and_last (IsFrame p new) fs f (frames_grown p old new fs c.set.ensures.grown c.self.invariant.frames) this);
      earlier = subst AreEarlier (sym c.in_ok-push.ensures.items)
          (earlier_and_last fs f c.self.invariant.earlier (subst (λ n. AllByRecursion (λ (g : Frame). g.mark.changes ≤ n) fs) (sym c.mark.ensures.changes) (all_earlier p old fs c.self.invariant.frames)));
    }

pub returns-clause-branches : goal.returns-clause-branches
returns-clause-branches c =
    let p = c.self.inside.problem.now in
    let old = c.self.inside.current in
    let new = c.set.new.self in
    let fs = c.self.inside.frames.items in
    let f : Frame = record { mark = c.mark.result; point = c.args.point; left = c.split-parts.result.1 } in
    let state : box_after c.mark.result.changes new ≡ old.sets = ap (λ n. box_after n new) c.mark.ensures.changes ∙ after_grown old new (length old.trail) c.set.ensures.grown (omega arith) ∙ last_state old in
    ap (λ gs. new.sets ∷ all_left new gs) c.in_ok-push.ensures.items
    ∙ branched old new f c.split-parts.result.0 fs (all_left old fs) (values_in c.candidates-values.result) c.candidates-values.ensures c.split-parts.ensures c.set.ensures.decided state
    (left_grown p old new fs c.set.ensures.grown c.self.invariant.frames)
    ∙ ap (λ (b : Boxes). first_branched b.boxes c.args.point) c.self.view_is
