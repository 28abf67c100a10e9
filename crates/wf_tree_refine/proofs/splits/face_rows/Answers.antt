use Rattle.std.proofs.Common.{◌≡◌, ◌≤◌, ◌+◌, ◌∷◌, [], flat_map, length, subst, sym, ap, ◌∙◌, arith, append-nil}
use Rattle.std.proofs.lemmas.Bool.{cond-true, cond-false}
use Rattle.std.proofs.lemmas.List.{length-map, take_all}
use Rattle.std.proofs.lemmas.Result.{err_from_is_err_and}
use Rattle.std.specs.List.{list_any}
use Rattle.wf_model.specs.Simplex.{same_vertex}
use Rattle.wf_tree_model.specs.Counting.Signs.{keep}
use Rattle.wf_tree_model.specs.Splits.{tuples_on_face, with_names}
use Rattle.wf_tree_model.specs.Tuples.{has_tuple, is_kept, mask_of}
use Rattle.wf_tree_refine.specs.SplitSeen.{rule_of, split_seen}
use Rattle.wf_tree_refine.proofs.Making.{more_made, rows_counted, too_many_more}
use Rattle.wf_tree_refine.proofs.SplitSteps.{face_keeps, face_made, kept_named, name_there, names_long}
use Rattle.wf_tree_refine.proofs.splits.face_rows.Goals as goal
use Rattle.wf_tree_refine.proofs.splits.face_rows.Goals.{then-has_row+in_ok-push_limited, else-has_row}

pub restricted_row-requires-clause-some : goal.restricted_row-requires-clause-some
restricted_row-requires-clause-some c =
    let simplex = c.args.split.now.simplex in
    let face = c.args.face.now in
    let row = c.row-item.result in
    let some = c.colours.ensures.some in
    let count = c.colours.ensures.count in
    let long : length row ≡ length simplex = ap length c.row-item.is ∙ c.requires.split.long c.rows.number row c.rows-test.true in
    let kept = ap (λ m. length (keep m row)) (c.deref.ensures.value ∙ c.in_ok-mask.ensures) ∙ face_keeps face simplex row c.requires.part long in
    omega (arith, some, count, kept)

pub restricted_row-requires-then-has_row-clause-long : goal.restricted_row-requires-then-has_row-clause-long
restricted_row-requires-then-has_row-clause-long c =
    let s = split_seen c.args.split.now in
    let name = name_there s c.args.split.now.rows.now c.args.split.now.named.items c.rows.number c.row-item.result c.index.result.now c.requires.split.named c.rows-test.true c.row-item.is c.index.ensures in
    ap length (c.deref-then-has_row.ensures.value ∙ c.in_ok-mask.ensures) ∙ length-map c.args.split.now.simplex (λ v. list_any (same_vertex v) c.args.face.now) ∙ sym (ap length name ∙ names_long s c.row-item.result)

pub restricted_row-requires-then-has_row-clause-some : goal.restricted_row-requires-then-has_row-clause-some
restricted_row-requires-then-has_row-clause-some c =
    let s = split_seen c.args.split.now in
    let simplex = c.args.split.now.simplex in
    let some = c.colours.ensures.some in
    let count = c.colours.ensures.count in
    let name = name_there s c.args.split.now.rows.now c.args.split.now.named.items c.rows.number c.row-item.result c.index.result.now c.requires.split.named c.rows-test.true c.row-item.is c.index.ensures in
    let kept = ap (λ m. length (keep m c.index.result.now)) (c.deref-then-has_row.ensures.value ∙ c.in_ok-mask.ensures)
    ∙ face_keeps c.args.face.now simplex c.index.result.now c.requires.part (ap length name ∙ names_long s c.row-item.result) in
    omega (arith, some, count, kept)

pub rows-preserved : goal.rows-preserved
rows-preserved c =
    let s = split_seen c.args.split.now in
    let rule = rule_of c.args.face.now c.args.allowed.now in
    let mask = mask_of c.args.face.now c.args.split.now.simplex in
    let rows = c.args.split.now.rows.now in
    let number = c.rows.number in
    let row = c.row-item.result in
    let low = c.rows-test.true in
    let masked = c.deref.ensures.value ∙ c.in_ok-mask.ensures in
    let tested = c.has_row.ensures ∙ ap (has_tuple c.args.allowed.now) (c.restricted_row.ensures ∙ ap (λ m. keep m row) masked) in
    elim c.if-has_row.branch [
      | then-has_row+in_ok-push_limited w ↦
          let items = ap (λ r. r.items) w.found-is in
          record {
            within = subst (λ xs. length xs ≤ c.args.most) (sym items) w.in_ok-push_limited.ensures.within;
            made = more_made (kept_named s rule) rows number row c.rows.found.items c.if-has_row.found.items _ low c.row-item.is
                (ap (λ k. k ∷ []) (w.restricted_row-then-has_row.ensures ∙ ap (λ m. keep m w.index.result.now) (w.deref-then-has_row.ensures.value ∙ c.in_ok-mask.ensures)
                ∙ ap (keep mask) (name_there s rows c.args.split.now.named.items number row w.index.result.now c.requires.split.named low c.row-item.is w.index.ensures))
                ∙ sym (cond-true (is_kept rule mask row) (keep mask (with_names s row) ∷ []) [] (sym tested ∙ w.if-has_row.true))) (items ∙ w.in_ok-push_limited.ensures.pushed) c.rows.invariant.made;
          }
      | else-has_row w ↦
          let items = ap (λ r. r.items) w.found-is in
          record {
            within = subst (λ xs. length xs ≤ c.args.most) (sym items) c.rows.invariant.within;
            made = more_made (kept_named s rule) rows number row c.rows.found.items c.if-has_row.found.items [] low c.row-item.is
                (sym (cond-false (is_kept rule mask row) (keep mask (with_names s row) ∷ []) [] (sym tested ∙ w.if-has_row.false))) (items ∙ sym (append-nil c.rows.found.items)) c.rows.invariant.made;
          }
    ]

pub returns-in_err-push_limited-clause-refused : goal.returns-in_err-push_limited-clause-refused
returns-in_err-push_limited-clause-refused c =
    let s = split_seen c.args.split.now in
    let rule = rule_of c.args.face.now c.args.allowed.now in
    let mask = mask_of c.args.face.now c.args.split.now.simplex in
    let row = c.row-item.result in
    let tested = c.has_row.ensures ∙ ap (has_tuple c.args.allowed.now) (c.restricted_row.ensures ∙ ap (λ m. keep m row) (c.deref.ensures.value ∙ c.in_ok-mask.ensures)) in
    let counted = rows_counted (kept_named s rule) c.args.split.now.rows.now c.rows.number row c.rows.found.items (keep mask (with_names s row) ∷ []) c.rows-test.true c.row-item.is
    (sym (cond-true (is_kept rule mask row) (keep mask (with_names s row) ∷ []) [] (sym tested ∙ c.if-has_row.true))) c.rows.invariant.made in
    let all = ap length (face_made s rule) in
    let p = err_from_is_err_and c.from_residual-in_err-push_limited.result c.from_residual-in_err-push_limited.ensures.1 in
    rw (p.1, p.2)
    (too_many_more c.in_err-push_limited.field-0.0 _ (length c.rows.found.items + 1) (length (tuples_on_face s rule)) (omega (arith, counted, all)) c.in_err-push_limited.ensures.refused)

pub returns-clause-rows : goal.returns-clause-rows
returns-clause-rows c =
    let s = split_seen c.args.split.now in
    let rule = rule_of c.args.face.now c.args.allowed.now in
    c.rows.invariant.made ∙ ap (flat_map (kept_named s rule)) (take_all c.rows.number c.args.split.now.rows.now c.rows-test.false) ∙ face_made s rule
