use Rattle.std.proofs.Common.{◌≡◌, ap, sym, subst, ◌∙◌, refl}
use Rattle.wf_model.specs.Laws.{IsBoxOf}
use Rattle.wf_base.specs.Set.Sets.{box_of}
use Rattle.wf_box.specs.Boxes.{Tracked}
use Rattle.wf_box.specs.Kept.{box_kept}
use Rattle.wf_box.proofs.SeenLemmas.{copied_for, if_closed}
use Rattle.wf_box.proofs.boxed.Box0.keep.Goals as goal

pub returns-clause-is : goal.returns-clause-is
returns-clause-is c = λ p is.
    let sets : box_kept c.in_ok-of.field-0 ≡ c.args.self.now.sets = c.in_ok-of.ensures.sets ∙ ap box_of c.deref.ensures.value ∙ ap (λ (b : Tracked). b.sets) c.self.view_is in
    copied_for p c.args.self.now _ sets refl refl (subst (IsBoxOf p) (sym sets) is.is_box) (if_closed c.is_closed-is_closed.result c.args.self.now c.is_closed-is_closed.ensures.closed) is
