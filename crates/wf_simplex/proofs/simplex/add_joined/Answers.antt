use Rattle.std.proofs.Common.{◌-◌, ◌<◌, ◌≤◌, [], ◌∷◌, ◌++◌, length, drop, sym, ap, ◌∙◌, subst, arith, take_all}
use Rattle.std.proofs.lemmas.List.{length-drop}
use Rattle.wf_model.specs.Simplex.{Vertex}
use Rattle.wf_model.specs.Task.{IsTaskSimplex}
use Rattle.wf_simplex.specs.Adding.{joined}
use Rattle.wf_simplex.proofs.FacesInOrder.{stood, one_joined}
use Rattle.wf_simplex.proofs.simplex.add_joined.Goals as goal

pub with_vertex-face-requires : goal.with_vertex-face-requires
with_vertex-face-requires c =
    let v : Vertex = (c.args.process, c.args.value) in
    let old = c.args.faces.now.items in
    let start = c.args.start in
    let place = c.loop-place.place in
    let face = c.index.result.now in
    let inside : place < length old = omega (arith, c.loop-place-test.true, c.len-end.ensures, c.args.faces.now.ok.0) in
    let within : place - start < length (drop start old) = omega (arith, length-drop start old, c.loop-place.auto.place, inside) in
    let read = stood v old start place c.loop-place.auto.place inside c.loop-place.faces.items _ face c.loop-place.invariant.added c.index.ensures in
    subst (λ s. IsTaskSimplex (s ++ (v ∷ []))) (sym read) (c.requires.joined (place - start) face within)

pub loop-place-preserved : goal.loop-place-preserved
loop-place-preserved c =
    let v : Vertex = (c.args.process, c.args.value) in
    let old = c.args.faces.now.items in
    let start = c.args.start in
    let place = c.loop-place.place in
    let face = c.index.result.now in
    let inv = c.loop-place.invariant in
    let made = c.push_reserved-in-loop-place.ensures in
    let inside : place < length old = omega (arith, c.loop-place-test.true, c.len-end.ensures, c.args.faces.now.ok.0) in
    record {
      added = one_joined v old start place c.loop-place.auto.place inside c.loop-place.faces.items c.push_reserved-in-loop-place.new.self.items face inv.added c.index.ensures
          (made.items ∙ ap (λ f. c.loop-place.faces.items ++ (f ∷ [])) c.with_vertex-face.ensures);
      count = omega (arith, made.len, inv.count);
      capacity = made.capacity ∙ inv.capacity;
    }

pub returns-clause-added : goal.returns-clause-added
returns-clause-added c =
    let v : Vertex = (c.args.process, c.args.value) in
    let old = c.args.faces.now.items in
    let start = c.args.start in
    let whole : length (drop start old) ≤ c.loop-place.place - start = omega (arith, length-drop start old, c.loop-place-test.false, c.len-end.ensures, c.args.faces.now.ok.0) in
    c.loop-place.invariant.added ∙ ap (λ fs. old ++ (v ∷ []) ∷ joined v fs) (take_all (c.loop-place.place - start) (drop start old) whole)
