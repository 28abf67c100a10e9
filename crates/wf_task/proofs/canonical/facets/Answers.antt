use Rattle.std.proofs.Common.{◌++◌, ◌∷◌, [], cond, length, sym, ap, ◌∙◌, subst, arith}
use Rattle.std.specs.Vec.{vec_items}
use Rattle.wf_model.specs.Simplex.{complex_of}
use Rattle.wf_simplex.specs.Faces.{IsComplex}
use Rattle.wf_task.specs.Canonical.{HasFewFacets}
use Rattle.wf_task.proofs.CanonicalLoops.{few_borders, facet_step}
use Rattle.wf_task.proofs.canonical.facets.Goals as goal
use Rattle.wf_task.proofs.canonical.facets.Goals.{then-not-contains+in_ok-push, else-not-contains}

pub from_facets-requires : goal.from_facets-requires
from_facets-requires c =
    let complex = c.simplices-simplices.result.now in
    let is_complex = subst IsComplex (sym c.simplices-simplices.ensures.simplices) c.simplices-simplices.ensures.complex in
    omega (arith, ap length (c.deref.ensures.value ∙ c.in_ok-boundary_faces.ensures), few_borders complex is_complex (subst HasFewFacets (sym c.simplices-simplices.ensures.simplices) c.requires))

pub loop-simplex-preserved : goal.loop-simplex-preserved
loop-simplex-preserved c =
    let complex = c.simplices-simplices.result.now in
    let is_complex = subst IsComplex (sym c.simplices-simplices.ensures.simplices) c.simplices-simplices.ensures.complex in
    let found = c.loop-simplex.found.items in
    let s = c.simplex-item.result in
    let step = facet_step complex c.in_ok-inner.inner found c.if-not-contains.found.items c.loop-simplex.simplex-index s c.contains.result is_complex c.loop-simplex-test.true c.simplex-item.is
    (c.in_ok-inner.ensures ∙ ap complex_of (c.deref.ensures.value ∙ c.in_ok-boundary_faces.ensures)) c.contains.ensures in
    elim c.if-not-contains.branch [
      | then-not-contains+in_ok-push w ↦ step (ap vec_items w.found-is ∙ w.in_ok-push.ensures.items ∙ ap (λ b. cond b found (found ++ s ∷ [])) (sym w.if-not-contains.true)) c.loop-simplex.invariant
      | else-not-contains w ↦ step (ap vec_items w.found-is ∙ ap (λ b. cond b found (found ++ s ∷ [])) (sym w.if-not-contains.false)) c.loop-simplex.invariant
    ]
