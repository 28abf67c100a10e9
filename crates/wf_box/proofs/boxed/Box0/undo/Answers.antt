use Rattle.std.proofs.Common.{◌≡◌, ap, drop, map, sym, take, ◌∙◌, ◌≤◌, length, subst}
use Rattle.wf_network.specs.Revising.{answers_in}
use Rattle.std.proofs.lemmas.List.{length-map, take-map}
use Rattle.std.specs.Bool.{OnTrue}
use Rattle.wf_base.specs.Set.Sets.{box_of, values_in}
use Rattle.wf_box.specs.Boxes.{IsFor, Tracked, WasClosed, box_after, change_seen, closed_if}
use Rattle.wf_box.proofs.CloseLemmas.{is_box}
use Rattle.wf_box.proofs.QuietLemmas.{length_back}
use Rattle.wf_box.proofs.SeenLemmas.{after_seen, tracked_seen, undone_for}
use Rattle.wf_box.proofs.boxed.Box0.undo.Goals.{then-mark, else-mark}
use Rattle.wf_box.proofs.boxed.Box0.undo.Goals as goal

pub returns-clause-sets : goal.returns-clause-sets
returns-clause-sets c =
    ap box_of c.undo.ensures.words ∙ after_seen c.args.mark.changes c.self.inside.workspace.tracked.trail.items c.self.inside.workspace.tracked.words.items c.self.inside.closed (answers_in c.self.inside.workspace.memo) ∙ ap (box_after c.args.mark.changes) c.self.view_is

pub returns-clause-trail : goal.returns-clause-trail
returns-clause-trail c =
    ap (map change_seen) c.undo.ensures.trail ∙ sym (take-map change_seen c.args.mark.changes c.self.inside.workspace.tracked.trail.items) ∙ ap (λ (b : Tracked). take c.args.mark.changes b.trail) c.self.view_is

pub returns-clause-is : goal.returns-clause-is
returns-clause-is c = λ p is was.
    let t = c.self.inside.workspace.tracked in
    let n = c.args.mark.changes in
    let old = tracked_seen t.words.items t.trail.items c.self.inside.closed (answers_in c.self.inside.workspace.memo) in
    let new = tracked_seen c.undo.new.self.words.items c.undo.new.self.trail.items c.if-mark.self (answers_in c.self.inside.workspace.memo) in
    let is_old : IsFor p old = subst (IsFor p) (sym c.self.view_is) is in
    let was_old : OnTrue c.args.mark.is_closed (WasClosed p old n) = subst (λ (b : Tracked). OnTrue c.args.mark.is_closed (WasClosed p b n)) (sym c.self.view_is) was in
    let long = ap length c.undo.ensures.words ∙ length_back (drop n t.trail.items) t.words.items ∙ sym (length-map t.words.items values_in) ∙ is_old.is_box.long in
    let closed : c.if-mark.self ≡ closed_if c.args.mark.is_closed n = elim c.if-mark.branch [
      | then-mark w ↦ w.self-is ∙ ap (λ b. closed_if b n) (sym w.if-mark.true)
      | else-mark w ↦ w.self-is ∙ ap (λ b. closed_if b n) (sym w.if-mark.false)
    ] in
    undone_for p old new n c.args.mark.is_closed (subst (λ (b : Tracked). n ≤ length b.trail) (sym c.self.view_is) c.requires)
    (ap box_of c.undo.ensures.words ∙ after_seen n t.trail.items t.words.items c.self.inside.closed (answers_in c.self.inside.workspace.memo)) (ap (map change_seen) c.undo.ensures.trail ∙ sym (take-map change_seen n t.trail.items)) closed (is_box p c.undo.new.self.words.items long) is_old.known was_old
