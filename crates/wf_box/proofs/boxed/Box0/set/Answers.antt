use Rattle.std.proofs.Common.{ap, sym, ◌∙◌, ◌∷◌, [], refl, length, subst, length-set}
use Rattle.wf_network.specs.Revising.{answers_in}
use Rattle.std.proofs.lemmas.List.{length-map}
use Rattle.wf_base.specs.Set.Sets.{box_of, values_in}
use Rattle.wf_box.specs.Boxes.{Grows, IsFor, Tracked}
use Rattle.wf_box.proofs.CloseLemmas.{is_box}
use Rattle.wf_box.proofs.SeenLemmas.{grown_seen, still_for, tracked_seen}
use Rattle.wf_box.proofs.boxed.Box0.set.Goals as goal

pub returns-clause-grown : goal.returns-clause-grown
returns-clause-grown c =
    let seen = grown_seen c.self.inside.workspace.tracked.words.items c.self.inside.workspace.tracked.trail.items c.set.new.self.words.items c.set.new.self.trail.items c.self.inside.closed c.self.inside.closed (answers_in c.self.inside.workspace.memo) (answers_in c.self.inside.workspace.memo) c.set.ensures.grown in
    subst (λ (b : Tracked). Grows b (tracked_seen c.set.new.self.words.items c.set.new.self.trail.items c.self.inside.closed (answers_in c.self.inside.workspace.memo))) c.self.view_is seen

pub returns-clause-is : goal.returns-clause-is
returns-clause-is c = λ p is.
    let old = tracked_seen c.self.inside.workspace.tracked.words.items c.self.inside.workspace.tracked.trail.items c.self.inside.closed (answers_in c.self.inside.workspace.memo) in
    let new = tracked_seen c.set.new.self.words.items c.set.new.self.trail.items c.self.inside.closed (answers_in c.self.inside.workspace.memo) in
    let seen = grown_seen c.self.inside.workspace.tracked.words.items c.self.inside.workspace.tracked.trail.items c.set.new.self.words.items c.set.new.self.trail.items c.self.inside.closed c.self.inside.closed (answers_in c.self.inside.workspace.memo) (answers_in c.self.inside.workspace.memo) c.set.ensures.grown in
    let is_old : IsFor p old = subst (IsFor p) (sym c.self.view_is) is in
    let long = sym (length-map c.set.new.self.words.items values_in) ∙ ap length c.set.ensures.decided ∙ length-set (box_of c.self.inside.workspace.tracked.words.items) c.args.point (c.args.value ∷ []) ∙ is_old.is_box.long in
    still_for p old new seen refl refl (is_box p c.set.new.self.words.items long) is_old
