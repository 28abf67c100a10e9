use Rattle.std.proofs.Common.{◌≡◌, Some, length, map, IfSome, ap, sym, ◌∙◌, refl}
use Rattle.std.proofs.lemmas.List.{length-map}
use Rattle.std.specs.List.{each_same}
use Rattle.wf_base.specs.Set.Sets.{box_of, values_in}
use Rattle.wf_box.specs.Boxes.{Tracked, change_seen}
use Rattle.wf_box.proofs.CloseLemmas.{is_box}
use Rattle.wf_box.proofs.SeenLemmas.{copied_for}
use Rattle.wf_box.proofs.boxed.Box0.copy.Goals.{then-is_closed, else-is_closed}
use Rattle.wf_box.proofs.boxed.Box0.copy.Goals as goal

pub returns-clause-is : goal.returns-clause-is
returns-clause-is c = λ p is.
    let t = c.self.inside.workspace.tracked in
    let words : c.in_ok-new.field-0.words.items ≡ t.words.items = c.in_ok-new.ensures.words ∙ c.in_ok-words.ensures.items_if_clones_equal (λ x y e. each_same x y e.whole) ∙ c.as_slice.ensures.value in
    let sets : box_of c.in_ok-new.field-0.words.items ≡ c.args.self.now.sets = ap box_of words ∙ ap (λ (b : Tracked). b.sets) c.self.view_is in
    let long = ap length words ∙ sym (length-map t.words.items values_in) ∙ ap (λ (b : Tracked). length b.sets) c.self.view_is ∙ is.is_box.long in
    let closed : IfSome c.if-is_closed.result (λ n. (n ≡ 0) × (c.args.self.now.closed ≡ Some (length c.args.self.now.trail))) = elim c.if-is_closed.branch [
      | then-is_closed w ↦ rw w.result-is (refl, w.if-is_closed.ensures.closed)
      | else-is_closed w ↦ rw w.result-is tt
    ] in
    copied_for p c.args.self.now _ sets (ap (map change_seen) c.in_ok-new.ensures.trail) c.new-3.ensures (is_box p c.in_ok-new.field-0.words.items long) closed is
