use Rattle.std.proofs.Common.{◌≡◌, ◌≤◌, ◌∙◌, ◌∷◌, ◌++◌, [], List, ap, refl, sym, subst}
use Rattle.std.specs.List.{AllByRecursion}
use Rattle.wf_model.specs.Lists.{has}
use Rattle.wf_model.specs.Box.{candidates, decided}
use Rattle.wf_base.specs.Set.Sets.{values_in}
use Rattle.wf_search.specs.declared.pending.Frame.{Frame}
use Rattle.wf_search.specs.declared.pending.SearchStack.TheInside.{Inside}
use Rattle.wf_search.specs.SearchStack.{AreEarlier, Boxes, IsFrame, IsPending, all_left, others}
use Rattle.wf_search.proofs.PendingLemmas.{each_and_last, each_but_last, earlier_and_last, earlier_but_last, first_has, frame_again, frame_less, frame_rest, frames_again, left_again, no_value, one_less, state_again}
use Rattle.wf_search.proofs.pending.SearchStack.next.Goals as goal

-- what is known of the last frame and the others
record Known (i : Inside) (fs : List Frame) (f : Frame) : Type 0 where
  rest : AllByRecursion (IsFrame i.problem.now i.current) fs
  last : IsFrame i.problem.now i.current f
  earlier : AreEarlier fs
  low : AllByRecursion (λ (g : Frame). g.mark.changes ≤ f.mark.changes) fs

known : (i : Inside) (fs : List Frame) (f : Frame) → IsPending i → i.frames.items ≡ fs ++ f ∷ [] → Known i fs f
known i fs f is items =
    let frames = each_but_last (IsFrame i.problem.now i.current) fs f (subst (AllByRecursion (IsFrame i.problem.now i.current)) items is.frames) in
    let earlier = earlier_but_last fs f (subst AreEarlier items is.earlier) in
    record { rest = frames.0; last = frames.1; earlier = earlier.0; low = earlier.1 }

pub undo-requires : goal.undo-requires
undo-requires c = (known c.self.inside c.pop.new.self.items c.in-Some.frame c.self.invariant c.in-Some.ensures.items).last.within

pub split-parts-requires : goal.split-parts-requires
split-parts-requires c = (known c.self.inside c.pop.new.self.items c.in-Some.frame c.self.invariant c.in-Some.ensures.items).last.some

pub set-requires : goal.set-requires
set-requires c =
    let k = known c.self.inside c.pop.new.self.items c.in-Some.frame c.self.invariant c.in-Some.ensures.items in
    ap (λ box. has (candidates box c.in-Some.frame.point) c.split-parts.result.0) c.undo.ensures.sets
    ∙ k.last.there c.split-parts.result.0 (first_has (values_in c.in-Some.frame.left) c.split-parts.result.0 (values_in c.split-parts.result.1) c.split-parts.ensures)

pub invariant_of-self-then-not-is_empty : goal.invariant_of-self-then-not-is_empty
invariant_of-self-then-not-is_empty c =
    let p = c.self.inside.problem.now in
    let f = c.in-Some.frame in
    let fs = c.pop.new.self.items in
    let k = known c.self.inside fs f c.self.invariant c.in-Some.ensures.items in
    let new = c.set.new.self in
    let this = frame_rest p new f c.split-parts.result.0 c.split-parts.result.1 c.split-parts.ensures (sym c.if-not-is_empty.ensures) (frame_again p c.self.inside.current c.undo.new.self new f k.last c.undo.ensures.sets c.undo.ensures.trail c.set.ensures.grown) in
    record {
      current = c.set.ensures.is p (c.undo.ensures.is p c.self.invariant.current k.last.closed);
      frames = subst (AllByRecursion (IsFrame p new)) (sym c.push_reserved.ensures.items)
          (each_and_last (IsFrame p new) fs (record { mark = f.mark; point = f.point; left = c.split-parts.result.1 }) (frames_again p c.self.inside.current c.undo.new.self new f fs k.last k.rest k.low c.undo.ensures.sets c.undo.ensures.trail c.set.ensures.grown) this);
      earlier = subst AreEarlier (sym c.push_reserved.ensures.items) (earlier_and_last fs (record { mark = f.mark; point = f.point; left = c.split-parts.result.1 }) k.earlier k.low);
    }

pub invariant_of-self-else-not-is_empty : goal.invariant_of-self-else-not-is_empty
invariant_of-self-else-not-is_empty c =
    let p = c.self.inside.problem.now in
    let f = c.in-Some.frame in
    let fs = c.pop.new.self.items in
    let k = known c.self.inside fs f c.self.invariant c.in-Some.ensures.items in
    record {
      current = c.set.ensures.is p (c.undo.ensures.is p c.self.invariant.current k.last.closed);
      frames = frames_again p c.self.inside.current c.undo.new.self c.set.new.self f fs k.last k.rest k.low c.undo.ensures.sets c.undo.ensures.trail c.set.ensures.grown;
      earlier = k.earlier;
    }

pub returns-then-not-is_empty-clause-some : goal.returns-then-not-is_empty-clause-some
returns-then-not-is_empty-clause-some c =
    let p = c.self.inside.problem.now in
    let old = c.self.inside.current in
    let f = c.in-Some.frame in
    let fs = c.pop.new.self.items in
    let k = known c.self.inside fs f c.self.invariant c.in-Some.ensures.items in
    let new = c.set.new.self in
    ap (λ gs. new.sets ∷ all_left new gs) c.push_reserved.ensures.items
    ∙ one_less old new f (record { mark = f.mark; point = f.point; left = c.split-parts.result.1 }) c.split-parts.result.0 fs refl refl c.split-parts.ensures (c.set.ensures.decided ∙ ap (λ box. decided box f.point c.split-parts.result.0) c.undo.ensures.sets)
    (state_again p old c.undo.new.self new f k.last c.undo.ensures.sets c.undo.ensures.trail c.set.ensures.grown) (left_again p old c.undo.new.self new f fs k.last k.rest k.low c.undo.ensures.sets c.undo.ensures.trail c.set.ensures.grown)
    ∙ ap (all_left old) (sym c.in-Some.ensures.items)
    ∙ ap (λ (b : Boxes). others b.boxes) c.self.view_is

pub returns-else-not-is_empty-clause-some : goal.returns-else-not-is_empty-clause-some
returns-else-not-is_empty-clause-some c =
    let p = c.self.inside.problem.now in
    let old = c.self.inside.current in
    let f = c.in-Some.frame in
    let fs = c.pop.new.self.items in
    let k = known c.self.inside fs f c.self.invariant c.in-Some.ensures.items in
    let new = c.set.new.self in
    frame_less old new f c.split-parts.result.0 fs (values_in c.split-parts.result.1) (no_value c.split-parts.result.1 (sym c.if-not-is_empty.ensures)) c.split-parts.ensures (c.set.ensures.decided ∙ ap (λ box. decided box f.point c.split-parts.result.0) c.undo.ensures.sets)
    (left_again p old c.undo.new.self new f fs k.last k.rest k.low c.undo.ensures.sets c.undo.ensures.trail c.set.ensures.grown)
    ∙ ap (all_left old) (sym c.in-Some.ensures.items)
    ∙ ap (λ (b : Boxes). others b.boxes) c.self.view_is
