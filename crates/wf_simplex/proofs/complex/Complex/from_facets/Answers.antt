use Rattle.std.proofs.Common.{[], ◌++◌, All, sym, ap, ◌∙◌, subst}
use Rattle.std.proofs.lemmas.List.Elements.{All-nil}
use Rattle.wf_model.specs.Task.{IsTaskSimplex}
use Rattle.wf_simplex.specs.Adding.{AreAdded, IsAmong, faces_in_turn}
use Rattle.wf_simplex.proofs.Adding.{added-none}
use Rattle.wf_simplex.proofs.FromFacets.{faces_more, within_more, faces_sorted, facets_within, is_complex}
use Rattle.wf_simplex.proofs.complex.Complex.from_facets.Goals as goal

pub loop-facet-init : goal.loop-facet-init
loop-facet-init c = record {
  faces = subst (AreAdded [] []) (sym c.new-simplices.ensures.items) (added-none []);
  within = All-nil IsTaskSimplex;
  among = subst (λ ss. All (IsAmong ss) c.in_ok-recent.recent) (sym c.new-simplices.ensures.items) c.in_ok-recent.ensures;
}

pub loop-facet-preserved : goal.loop-facet-preserved
loop-facet-preserved c =
    let facets = c.args.facets.now in
    let i = c.loop-facet.facet-index in
    let f = c.facet-item.result in
    let inv = c.loop-facet.invariant in
    record {
      faces = faces_more facets c.loop-facet.simplices.items c.add_faces.new.faces.items c.add_each.new.simplices.items i f c.loop-facet-test.true c.facet-item.is inv.faces
          (c.in_ok-add_faces.ensures.added ∙ ap (λ fs. fs ++ faces_in_turn f) c.clear.ensures.items)
          (subst (λ fs. AreAdded c.loop-facet.simplices.items fs c.add_each.new.simplices.items) c.deref.ensures.value c.in_ok-add_each.ensures.added);
      within = within_more facets i f c.loop-facet-test.true c.facet-item.is inv.within c.add_faces.ensures.simplex;
      among = c.in_ok-add_each.ensures.among;
    }

pub returns : goal.returns
returns c =
    let inv = c.loop-facet.invariant in
    let sort = c.sort_unstable.ensures in
    c.shrink_to_fit.ensures.items
    ∙ faces_sorted c.args.facets.now c.loop-facet.facet-index _ _ _ c.loop-facet-test.false inv.faces sort.permutation sort.sorted c.dedup.ensures.filtered

pub invariant_of-result : goal.invariant_of-result
invariant_of-result c =
    let inv = c.loop-facet.invariant in
    let sort = c.sort_unstable.ensures in
    is_complex c.args.facets.now c.shrink_to_fit.new.self.items
    (c.shrink_to_fit.ensures.items
    ∙ faces_sorted c.args.facets.now c.loop-facet.facet-index _ _ _ c.loop-facet-test.false inv.faces sort.permutation sort.sorted c.dedup.ensures.filtered)
    (facets_within c.args.facets.now c.loop-facet.facet-index c.loop-facet-test.false inv.within) c.requires
