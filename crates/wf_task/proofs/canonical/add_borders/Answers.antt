use Rattle.std.specs.Prelude.{remove}
use Rattle.std.proofs.Common.{◌≡◌, ◌+◌, ◌++◌, ◌∷◌, [], map, sym, ap, ◌∙◌, append_assoc}
use Rattle.std.proofs.lemmas.List.{map-append}
use Rattle.wf_model.specs.Lists.{below}
use Rattle.wf_task.proofs.canonical.add_borders.Goals as goal
use Rattle.wf_model.proofs.Lemmas.{below_next}

pub loop-place-preserved : goal.loop-place-preserved
loop-place-preserved c =
    let s = c.args.simplex.now in
    let i = c.loop-place.place in
    let more : map (remove s) (below (i + 1)) ≡ map (remove s) (below i) ++ remove s i ∷ [] = ap (map (remove s)) (below_next i) ∙ map-append (remove s) (below i) (i ∷ []) in
    c.in_ok-push.ensures.items
    ∙ (λ j. c.loop-place.invariant j ++ c.without.ensures j ∷ [])
    ∙ append_assoc c.args.borders.now.items (map (remove s) (below i)) (remove s i ∷ [])
    ∙ ap (λ rest. c.args.borders.now.items ++ rest) (sym more)
