use Rattle.std.proofs.Common.{◌≡◌, ◌==◌, ◌++◌, ◌∷◌, [], ℕ, Bool, List, All, filter, get_or, length, sym, ap, ◌∙◌, subst, arith, append-nil, take_all}
use Rattle.std.proofs.lemmas.Bool.{cond-true, cond-false, eq-eqb, ne_eqb}
use Rattle.std.proofs.lemmas.List.{length-map}
use Rattle.std.proofs.lemmas.List.Elements.{All-filter}
use Rattle.wf_tree_model.specs.Splits.{with_names}
use Rattle.wf_tree_refine.proofs.Lemmas.{filter_step}
use Rattle.wf_tree_explain.specs.Calls.{splitting_of}
use Rattle.wf_tree_explain.proofs.Renaming.{named_at, row_named, wide}
use Rattle.wf_tree_explain.proofs.split.called.Goals as goal
use Rattle.wf_tree_explain.proofs.split.called.Goals.{then-value-call+in_ok-push, else-value-call}

pub value-requires : goal.value-requires
value-requires c =
    let r = c.args.renamed.now in
    let low = c.rows-test.true in
    let same = ap length c.requires.renamed.named in
    let long = length-map r.rows.now (with_names (splitting_of r)) in
    let wide_there = wide r c.requires.renamed c.rows.number c.index-renamed-number.result (omega (arith, low, same, long)) in
    let inside = c.requires.inside in
    omega (arith, wide_there, inside)

pub rows-preserved : goal.rows-preserved
rows-preserved c =
    let r = c.args.renamed.now in
    let rows = r.rows.now in
    let i = c.rows.number in
    let row = c.row-item.result in
    let name = c.args.call.name in
    let f : List ℕ → ℕ = (splitting_of r).name c.args.call.place in
    let low = c.rows-test.true in
    let here = c.row-item.is in
    let named = row_named r c.requires.renamed i row c.index-renamed-number.result low here in
    let number : c.value.result ≡ f row = c.value.ensures ∙ ap (λ xs. get_or xs c.args.call.place 0) named ∙ named_at (splitting_of r) row c.args.call.place c.requires.inside in
    elim c.if-value-call.branch [
      | then-value-call+in_ok-push w ↦
          filter_step (λ tuple. f tuple == name) rows i row c.rows.rows.items c.if-value-call.rows.items low here c.rows.invariant
          (ap (λ v. v.items) w.rows-is ∙ w.in_ok-push.ensures.items ∙ sym (ap (λ xs. c.rows.rows.items ++ xs) (cond-true (f row == name) (row ∷ []) [] (eq-eqb (f row) name (sym number ∙ w.if-value-call.true)))))
      | else-value-call w ↦
          filter_step (λ tuple. f tuple == name) rows i row c.rows.rows.items c.if-value-call.rows.items low here c.rows.invariant
          (ap (λ v. v.items) w.rows-is ∙ sym (ap (λ xs. c.rows.rows.items ++ xs) (cond-false (f row == name) (row ∷ []) [] (ne_eqb (f row) name (λ e. w.if-value-call.false (number ∙ e)))) ∙ append-nil c.rows.rows.items))
    ]

pub returns-clause-long : goal.returns-clause-long
returns-clause-long c =
    let r = c.args.renamed.now in
    let high = c.rows-test.false in
    let test : List ℕ → Bool = λ tuple. (splitting_of r).name c.args.call.place tuple == c.args.call.name in
    subst (All (λ row. length row ≡ length r.simplex.now)) (sym (c.rows.invariant ∙ ap (filter test) (take_all c.rows.number r.rows.now high)))
    (All-filter test (λ row. length row ≡ length r.simplex.now) r.rows.now c.requires.renamed.long)
