use Rattle.std.proofs.Common.{◌≡◌, ◌+◌, ◌++◌, ◌∷◌, [], take, flat_map, sym, ap, ◌∙◌, subst, append-nil}
use Rattle.std.proofs.lemmas.List.{take_more}
use Rattle.std.proofs.lemmas.List.Concat.{flat_map-append}
use Rattle.wf_model.specs.Simplex.{values_of}
use Rattle.wf_task.specs.Mask.{IsMaskOf}
use Rattle.wf_task.proofs.RowLemmas.{mask-append}
use Rattle.wf_task.proofs.rows.mask.Goals as goal

pub loop-simplex-preserved : goal.loop-simplex-preserved
loop-simplex-preserved c =
    let simplices = c.args.simplices.now in
    let i = c.loop-simplex.simplex-index in
    let s = c.simplex-item.result in
    let longer : take (i + 1) simplices ≡ take i simplices ++ (s ∷ []) = take_more simplices i s c.loop-simplex-test.true ∙ ap (λ t. take i simplices ++ (t ∷ [])) (sym c.simplex-item.is) in
    let values = ap (flat_map values_of) longer ∙ flat_map-append values_of (take i simplices) (s ∷ []) ∙ ap (λ xs. flat_map values_of (take i simplices) ++ xs) (append-nil (values_of s)) in
    subst (IsMaskOf c.with_values-more.result) (sym values) (mask-append c.loop-simplex.mask c.with_values-more.result (flat_map values_of (take i simplices)) (values_of s) c.loop-simplex.invariant c.with_values-more.ensures)
