use Rattle.std.proofs.Common.{◌≡◌, ◌==◌, ◌++◌, ◌∷◌, [], get_or, sym, ap, ◌∙◌, append-nil}
use Rattle.std.proofs.lemmas.Bool.{cond-true, cond-false, eq-eqb, ne_eqb}
use Rattle.std.proofs.lemmas.List.{get_or-map}
use Rattle.wf_tree_model.specs.Cases.{is_step}
use Rattle.wf_tree_model.specs.Parts.{parts}
use Rattle.wf_tree_refine.specs.Near.{part_of}
use Rattle.wf_tree_refine.proofs.CaseSteps.{filter_step}
use Rattle.wf_tree_refine.proofs.cases.component_rows.Goals as goal
use Rattle.wf_tree_refine.proofs.cases.component_rows.Goals.{then-index-number+in_ok-push, else-index-number}

pub rows-preserved : goal.rows-preserved
rows-preserved c =
    let rows = c.args.rows.now in
    let place = c.rows.place in
    let row = c.index-rows-place.result in
    let inside = c.rows-test.true in
    let here = c.index-rows-place.is in
    let f = part_of (parts (is_step c.args.size) rows) in
    let number : c.index.result.now ≡ f row = c.index.ensures ∙ ap (λ ns. get_or ns place c.index.result.now) c.in_ok-numbers.ensures ∙ get_or-map f rows place row c.index.result.now inside ∙ ap f (sym here) in
    elim c.if-index-number.branch [
      | then-index-number+in_ok-push w ↦
          filter_step (λ tuple. f tuple == c.args.number) rows place row c.rows.part.items c.if-index-number.part.items inside here c.rows.invariant
          (ap (λ r. r.items) w.part-is ∙ w.in_ok-push.ensures.items ∙ sym (ap (λ xs. c.rows.part.items ++ xs) (cond-true (f row == c.args.number) (row ∷ []) [] (eq-eqb (f row) c.args.number (sym number ∙ w.if-index-number.true)))))
      | else-index-number w ↦
          filter_step (λ tuple. f tuple == c.args.number) rows place row c.rows.part.items c.if-index-number.part.items inside here c.rows.invariant
          (ap (λ r. r.items) w.part-is ∙ sym (ap (λ xs. c.rows.part.items ++ xs) (cond-false (f row == c.args.number) (row ∷ []) [] (ne_eqb (f row) c.args.number (λ e. w.if-index-number.false (number ∙ e)))) ∙ append-nil c.rows.part.items))
    ]
