use Rattle.std.proofs.Common.{◌≡◌, ◌<◌, ◌≤◌, ◌+◌, [], flat_map, length, map, subst, sym, ap, ◌∙◌, arith, append-nil}
use Rattle.std.specs.List.{AllByRecursion}
use Rattle.std.proofs.lemmas.Bool.{cond-true, cond-false}
use Rattle.std.proofs.lemmas.List.{length-map, take_all}
use Rattle.std.proofs.lemmas.List.Elements.{All-from_recursion, All-get_or}
use Rattle.std.proofs.lemmas.Result.{err_from_is_err_and}
use Rattle.wf_tree_model.specs.Counting.Signs.{keep}
use Rattle.wf_tree_model.specs.Covers.{lifts, lifts_on_face}
use Rattle.wf_tree_model.specs.Tuples.{has_tuple, is_kept, mask_of}
use Rattle.wf_tree_refine.specs.SplitSeen.{rule_of}
use Rattle.wf_tree_refine.proofs.Lemmas.{more_made, rows_counted, too_many_more, face_keeps}
use Rattle.wf_tree_steps.specs.Cover.LiftSeen.{lift_seen}
use Rattle.wf_tree_steps.proofs.OfCover.LiftSteps.{face_lifted, kept_lifts}
use Rattle.wf_tree_steps.proofs.cover.rows.face_rows.Goals as goal
use Rattle.wf_tree_steps.proofs.cover.rows.face_rows.Goals.{then-has_row+in_ok-push_lifts, else-has_row}

pub restricted_row-requires-clause-some : goal.restricted_row-requires-clause-some
restricted_row-requires-clause-some c =
    let simplex = c.args.lift.now.simplex in
    let face = c.args.face.now in
    let row = c.row-item.result in
    let some = c.colours.ensures.some in
    let count = c.colours.ensures.count in
    let long : length row ≡ length simplex = ap length c.row-item.is ∙ c.requires.lift.long c.rows.row-index row c.rows-test.true in
    let kept = ap (λ m. length (keep m row)) (c.deref.ensures.value ∙ c.in_ok-mask.ensures) ∙ face_keeps face simplex row c.requires.part long in
    omega (arith, some, count, kept)

pub push_lifts-requires-clause-small : goal.push_lifts-requires-clause-small
push_lifts-requires-clause-small c =
    let rows = c.args.lift.now.rows.now in
    let row = c.row-item.result in
    subst (AllByRecursion (λ value. value < c.args.lift.now.new)) (sym c.row-item.is)
    (All-get_or (AllByRecursion (λ value. value < c.args.lift.now.new)) rows c.rows.row-index row c.rows-test.true (All-from_recursion (AllByRecursion (λ value. value < c.args.lift.now.new)) rows c.requires.lift.small))

pub rows-preserved : goal.rows-preserved
rows-preserved c =
    let s = lift_seen c.args.lift.now in
    let rule = rule_of c.args.face.now c.args.allowed.now in
    let mask = mask_of c.args.face.now c.args.lift.now.simplex in
    let rows = c.args.lift.now.rows.now in
    let row = c.row-item.result in
    let low = c.rows-test.true in
    let tested = c.has_row.ensures ∙ ap (has_tuple c.args.allowed.now) (c.restricted_row.ensures ∙ ap (λ m. keep m row) (c.deref.ensures.value ∙ c.in_ok-mask.ensures)) in
    elim c.if-has_row.branch [
      | then-has_row+in_ok-push_lifts w ↦
          let items = ap (λ r. r.items) w.found-is in
          record {
            within = subst (λ xs. length xs ≤ c.args.most) (sym items) w.in_ok-push_lifts.ensures.within;
            made = more_made (kept_lifts s rule) rows c.rows.row-index row c.rows.found.items c.if-has_row.found.items _ low c.row-item.is
                (ap (λ m. map (keep m) (lifts s row)) (w.deref-then-has_row.ensures.value ∙ c.in_ok-mask.ensures) ∙ sym (cond-true (is_kept rule mask row) (map (keep mask) (lifts s row)) [] (sym tested ∙ w.if-has_row.true)))
                (items ∙ w.in_ok-push_lifts.ensures.pushed) c.rows.invariant.made;
          }
      | else-has_row w ↦
          let items = ap (λ r. r.items) w.found-is in
          record {
            within = subst (λ xs. length xs ≤ c.args.most) (sym items) c.rows.invariant.within;
            made = more_made (kept_lifts s rule) rows c.rows.row-index row c.rows.found.items c.if-has_row.found.items [] low c.row-item.is
                (sym (cond-false (is_kept rule mask row) (map (keep mask) (lifts s row)) [] (sym tested ∙ w.if-has_row.false))) (items ∙ sym (append-nil c.rows.found.items)) c.rows.invariant.made;
          }
    ]

pub returns-in_err-push_lifts-clause-refused : goal.returns-in_err-push_lifts-clause-refused
returns-in_err-push_lifts-clause-refused c =
    let s = lift_seen c.args.lift.now in
    let rule = rule_of c.args.face.now c.args.allowed.now in
    let mask = mask_of c.args.face.now c.args.lift.now.simplex in
    let row = c.row-item.result in
    let tested = c.has_row.ensures ∙ ap (has_tuple c.args.allowed.now) (c.restricted_row.ensures ∙ ap (λ m. keep m row) (c.deref.ensures.value ∙ c.in_ok-mask.ensures)) in
    let counted = rows_counted (kept_lifts s rule) c.args.lift.now.rows.now c.rows.row-index row c.rows.found.items (map (keep mask) (lifts s row)) c.rows-test.true c.row-item.is
    (sym (cond-true (is_kept rule mask row) (map (keep mask) (lifts s row)) [] (sym tested ∙ c.if-has_row.true))) c.rows.invariant.made in
    let each = length-map (lifts s row) (keep mask) in
    let all = ap length (face_lifted s rule) in
    let p = err_from_is_err_and c.from_residual-in_err-push_lifts.result c.from_residual-in_err-push_lifts.ensures.1 in
    rw (p.1, p.2)
    (too_many_more c.in_err-push_lifts.field-0.0 c.args.most (length c.rows.found.items + length (lifts s row)) (length (lifts_on_face s rule)) (omega (arith, counted, all, each)) c.in_err-push_lifts.ensures.refused)

pub returns-clause-rows : goal.returns-clause-rows
returns-clause-rows c =
    let s = lift_seen c.args.lift.now in
    let rule = rule_of c.args.face.now c.args.allowed.now in
    c.rows.invariant.made ∙ ap (flat_map (kept_lifts s rule)) (take_all c.rows.row-index c.args.lift.now.rows.now c.rows-test.false) ∙ face_lifted s rule
