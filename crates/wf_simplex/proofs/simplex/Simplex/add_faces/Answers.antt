use Rattle.std.proofs.Common.{All, ◌≡◌, ◌+◌, ◌++◌, [], ◌∷◌, length, drop, Some, vec_len, vec_capacity, sym, ap, ◌∙◌, subst, arith, append-nil, append_assoc}
use Rattle.std.proofs.lemmas.List.Elements.{All-nil}
use Rattle.wf_model.specs.Simplex.{Vertex}
use Rattle.wf_model.specs.Task.{IsTaskSimplex}
use Rattle.wf_simplex.specs.Entries.{value_at}
use Rattle.wf_simplex.specs.Adding.{joined, with_vertex, faces_in_turn}
use Rattle.wf_simplex.proofs.FacesInOrder.{vertices_below, none_below, below_more, below_same, all_below, in_turn-more, all_wider, all_joined, simplices_joined, since, doubled}
use Rattle.wf_simplex.proofs.KeyLemmas.{small_value}
use Rattle.wf_simplex.proofs.BoundedFaces.{Climbs}
use Rattle.wf_simplex.proofs.simplex.Simplex.add_faces.Goals as goal
use Rattle.wf_simplex.proofs.simplex.Simplex.add_faces.Goals.{in-Some, in_default}

pub loop-process-init : goal.loop-process-init
loop-process-init c =
    let none = ap faces_in_turn (none_below c.args.self.now) in
    let reserved = c.in_ok-reserve.ensures in
    record {
      added = reserved.items ∙ sym (append-nil c.args.faces.now.items) ∙ ap (λ fs. c.args.faces.now.items ++ fs) (sym none);
      climbing = subst (All (Climbs 0 255 0)) (sym none) (All-nil (Climbs 0 255 0));
      from = omega (arith, c.len-start.ensures);
      count = omega (arith, c.len-start.ensures);
      room = omega (arith, c.len-start.ensures, reserved.ok);
    }

pub add_joined-requires-clause-joined : goal.add_joined-requires-clause-joined
add_joined-requires-clause-joined c =
    let s = c.args.self.now in
    let old = c.args.faces.now.items in
    let p = c.loop-process.process in
    let x = c.in-Some.value in
    let faces = faces_in_turn (vertices_below p s) in
    let simplex = subst IsTaskSimplex c.self.view_is c.self.invariant.simplex in
    let at : c.len-start.result ≡ length old = omega (arith, c.len-start.ensures, c.in_ok-reserve.ensures.len, c.args.faces.now.ok.0) in
    let small = small_value s simplex p x (sym c.value.ensures ∙ c.in-Some.is) in
    subst (All (λ t. IsTaskSimplex (t ++ ((p, x) ∷ [])))) (sym (since old c.loop-process.faces.items faces c.len-start.result at c.loop-process.invariant.added))
    (simplices_joined p x faces (omega (arith, c.loop-process-test.true)) small c.loop-process.invariant.climbing)

pub loop-process-preserved : goal.loop-process-preserved
loop-process-preserved c =
    let s = c.args.self.now in
    let old = c.args.faces.now.items in
    let p = c.loop-process.process in
    let inv = c.loop-process.invariant in
    let start = c.len-start.result in
    let faces = faces_in_turn (vertices_below p s) in
    let twice = doubled p c.loop-process-test.true in
    let simplex = subst IsTaskSimplex c.self.view_is c.self.invariant.simplex in
    let at : start ≡ length old = omega (arith, c.len-start.ensures, c.in_ok-reserve.ensures.len, c.args.faces.now.ok.0) in
    elim c.match-value.branch [
      | in-Some w ↦
          let x = w.in-Some.value in
          let v : Vertex = (p, x) in
          let is : value_at s p ≡ Some x = sym c.value.ensures ∙ w.in-Some.is in
          let made = w.add_joined.ensures in
          let more : faces_in_turn (vertices_below (p + 1) s) ≡ with_vertex faces v = ap faces_in_turn (below_more p x s is) ∙ in_turn-more (vertices_below p s) v in
          let here = since old c.loop-process.faces.items faces start at inv.added in
          record {
            added = ap (λ vec. vec.items) w.faces-is ∙ made.added ∙ ap (λ fs. fs ++ (v ∷ []) ∷ joined v (drop start c.loop-process.faces.items)) inv.added
                ∙ append_assoc old faces ((v ∷ []) ∷ joined v (drop start c.loop-process.faces.items))
                ∙ ap (λ fs. old ++ (faces ++ (v ∷ []) ∷ joined v fs)) here ∙ ap (λ fs. old ++ fs) (sym more);
            climbing = subst (All (Climbs (p + 1) 255 0)) (sym more) (all_joined p x faces (small_value s simplex p x is) inv.climbing);
            from = omega (arith, ap vec_len w.faces-is, made.count, inv.from);
            count = omega (arith, ap vec_len w.faces-is, made.count, inv.count, twice.0);
            room = omega (arith, ap vec_capacity w.faces-is, made.capacity, inv.room);
          }
      | in_default w ↦
          let same = ap faces_in_turn (below_same p s (sym c.value.ensures ∙ w.in_default.is)) in
          record {
            added = ap (λ vec. vec.items) w.faces-is ∙ inv.added ∙ ap (λ fs. old ++ fs) (sym same);
            climbing = subst (All (Climbs (p + 1) 255 0)) (sym same) (all_wider p faces inv.climbing);
            from = omega (arith, ap vec_len w.faces-is, inv.from);
            count = omega (arith, ap vec_len w.faces-is, inv.count, twice.0);
            room = omega (arith, ap vec_capacity w.faces-is, inv.room);
          }
    ]

pub returns-clause-added : goal.returns-clause-added
returns-clause-added c =
    let s = c.args.self.now in
    let simplex = subst IsTaskSimplex c.self.view_is c.self.invariant.simplex in
    let end : c.loop-process.process ≡ 4 = omega (arith, c.loop-process-test.false, c.loop-process.auto.process-end) in
    c.loop-process.invariant.added ∙ ap (λ p. c.args.faces.now.items ++ faces_in_turn (vertices_below p s)) end
    ∙ ap (λ t. c.args.faces.now.items ++ faces_in_turn t) (all_below s simplex)
