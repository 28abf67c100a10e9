-- The faces of a simplex, one vertex after another, are its faces.
use Rattle.std.proofs.Common.{◌≡◌, ℕ, zero, suc, ◌+◌, ◌-◌, ◌^◌, ◌<◌, ◌≤◌, true, List, [], ◌∷◌, ◌++◌, length, map, take, drop, slice_index_or, All, Option, None, Some, inl, inr, refl, sym, ap, ap₂, ◌∙◌, subst, arith, append-nil, append_assoc}
use Rattle.std.proofs.lemmas.List.{get_or_append_left, get_or-drop, length-drop, map-append, take_more}
use Rattle.std.proofs.Math.Seq.{drop-append_seam}
use Rattle.wf_model.specs.Simplex.{Vertex, Simplex, is_nonempty, parts_of, faces_of}
use Rattle.wf_model.specs.Task.{IsTaskSimplex}
use Rattle.wf_simplex.specs.Entries.{vertices_from, value_at}
use Rattle.wf_simplex.specs.Adding.{joined, with_vertex, with_vertices, faces_in_turn}
use Rattle.wf_simplex.proofs.Orders.{Has, has-append, has-append_left, has-append_right, has-map, map-has}
use Rattle.wf_simplex.proofs.Faces.{begins, has_cons, has-filter, filter-has}
use Rattle.wf_simplex.proofs.BoundedFaces.{Climbs, climbs_wider, climbs_joined, climbs_within, all_of_has, has_of_all}
use Rattle.wf_simplex.proofs.KeyLemmas.{vertices-entries_of}

-- ---- one vertex after another

pub vertex_of : ℕ → Option ℕ → Simplex
vertex_of p None = []
vertex_of p (Some x) = (p, x) ∷ []

-- the vertices of the processes below p
unfoldable pub vertices_below : ℕ → Simplex → Simplex
vertices_below zero s = []
vertices_below (suc p) s = vertices_below p s ++ vertex_of p (value_at s p)

pub none_below : (s : Simplex) → vertices_below 0 s ≡ []
unfolding vertices_below
none_below s = refl

pub below_more : (p x : ℕ) (s : Simplex) → value_at s p ≡ Some x → vertices_below (p + 1) s ≡ vertices_below p s ++ ((p, x) ∷ [])
unfolding vertices_below vertex_of
below_more p x s h = let e : p + 1 ≡ suc p = omega arith in rw e (ap (λ o. vertices_below p s ++ vertex_of p o) h)

pub below_same : (p : ℕ) (s : Simplex) → value_at s p ≡ None → vertices_below (p + 1) s ≡ vertices_below p s
unfolding vertices_below vertex_of
below_same p s h = let e : p + 1 ≡ suc p = omega arith in rw e (ap (λ o. vertices_below p s ++ vertex_of p o) h ∙ append-nil (vertices_below p s))

four_below : (a b c d : Option ℕ) → ((([] ++ vertex_of 0 a) ++ vertex_of 1 b) ++ vertex_of 2 c) ++ vertex_of 3 d ≡ vertices_from 0 (a ∷ b ∷ c ∷ d ∷ [])
unfolding vertex_of
four_below None None None None = refl
four_below None None None (Some w) = refl
four_below None None (Some z) None = refl
four_below None None (Some z) (Some w) = refl
four_below None (Some y) None None = refl
four_below None (Some y) None (Some w) = refl
four_below None (Some y) (Some z) None = refl
four_below None (Some y) (Some z) (Some w) = refl
four_below (Some x) None None None = refl
four_below (Some x) None None (Some w) = refl
four_below (Some x) None (Some z) None = refl
four_below (Some x) None (Some z) (Some w) = refl
four_below (Some x) (Some y) None None = refl
four_below (Some x) (Some y) None (Some w) = refl
four_below (Some x) (Some y) (Some z) None = refl
four_below (Some x) (Some y) (Some z) (Some w) = refl

pub all_below : (s : Simplex) → IsTaskSimplex s → vertices_below 4 s ≡ s
unfolding vertices_below
all_below s h = four_below (value_at s 0) (value_at s 1) (value_at s 2) (value_at s 3) ∙ vertices-entries_of s h

with_vertices-more : (faces : List Simplex) (s : Simplex) (v : Vertex) → with_vertices faces (s ++ (v ∷ [])) ≡ with_vertex (with_vertices faces s) v
with_vertices-more faces [] v = refl
with_vertices-more faces (w ∷ s) v = with_vertices-more (with_vertex faces w) s v

pub in_turn-more : (s : Simplex) (v : Vertex) → faces_in_turn (s ++ (v ∷ [])) ≡ with_vertex (faces_in_turn s) v
in_turn-more s v = with_vertices-more [] s v

-- ---- in a vector, from a place on

module _ (v : Vertex) (old : List Simplex) (start place : ℕ) (from : start ≤ place) (inside : place < length old) where
  -- what is read there stood there before
  pub stood : (items rest : List Simplex) (face : Simplex) → items ≡ old ++ rest → face ≡ slice_index_or items place face → face ≡ slice_index_or (drop start old) (place - start) face
  stood items rest face are read =
      let at : start + (place - start) ≡ place = omega (arith, from) in
      read ∙ ap (λ fs. slice_index_or fs place face) are ∙ get_or_append_left old rest face place inside
      ∙ ap (λ k. slice_index_or old k face) (sym at) ∙ sym (get_or-drop start old (place - start) face)

  pub one_joined : (items new : List Simplex) (face : Simplex) → items ≡ old ++ (v ∷ []) ∷ joined v (take (place - start) (drop start old)) → face ≡ slice_index_or items place face
      → new ≡ items ++ ((face ++ (v ∷ [])) ∷ []) → new ≡ old ++ (v ∷ []) ∷ joined v (take (place + 1 - start) (drop start old))
  one_joined items new face are read is =
      let next : place + 1 - start ≡ place - start + 1 = omega (arith, from) in
      let within : place - start < length (drop start old) = omega (arith, length-drop start old, from, inside) in
      let done = take (place - start) (drop start old) in
      let more : take (place + 1 - start) (drop start old) ≡ done ++ (face ∷ []) =
      ap (λ k. take k (drop start old)) next ∙ take_more (drop start old) (place - start) face within
      ∙ ap (λ f. done ++ (f ∷ [])) (sym (stood items ((v ∷ []) ∷ joined v done) face are read)) in
      is ∙ ap (λ fs. fs ++ ((face ++ (v ∷ [])) ∷ [])) are
      ∙ append_assoc old ((v ∷ []) ∷ joined v done) ((face ++ (v ∷ [])) ∷ [])
      ∙ ap (λ fs. old ++ (v ∷ []) ∷ fs) (sym (ap (joined v) more ∙ map-append (λ s. s ++ (v ∷ [])) done (face ∷ [])))

pub since : (old items faces : List Simplex) (start : ℕ) → start ≡ length old → items ≡ old ++ faces → drop start items ≡ faces
since old items faces start at are = ap₂ drop at are ∙ drop-append_seam old faces

-- how many faces there are at most after so many processes
pub doubled : (p : ℕ) → p < 4 → (2 ^ (p + 1) ≡ 2 ^ p + 2 ^ p) × (2 ^ (p + 1) ≤ 16)
doubled zero h = (refl, omega arith)
doubled (suc zero) h = (refl, omega arith)
doubled (suc (suc zero)) h = (refl, omega arith)
doubled (suc (suc (suc zero))) h = (refl, omega arith)
doubled (suc (suc (suc (suc p)))) h = absurd (let none : ⊥ = omega (arith, h) in none)

-- ---- each is a simplex

pub all_wider : (p : ℕ) (faces : List Simplex) → All (Climbs p 255 0) faces → All (Climbs (p + 1) 255 0) faces
all_wider p faces h = all_of_has (Climbs (p + 1) 255 0) faces (λ s here. climbs_wider p 255 0 (p + 1) s (omega arith) (has_of_all (Climbs p 255 0) s faces h here))

pub all_joined : (p x : ℕ) (faces : List Simplex) → x ≤ 255 → All (Climbs p 255 0) faces → All (Climbs (p + 1) 255 0) (with_vertex faces (p, x))
unfolding Climbs
all_joined p x faces small h = all_of_has (Climbs (p + 1) 255 0) (with_vertex faces (p, x)) (λ s here. elim (has-append s faces (((p, x) ∷ []) ∷ joined (p, x) faces) here) [
  | inl old ↦ climbs_wider p 255 0 (p + 1) s (omega arith) (has_of_all (Climbs p 255 0) s faces h old)
  | inr (inl e) ↦ subst (Climbs (p + 1) 255 0) e (climbs_joined p x 255 0 [] (omega arith) small tt)
  | inr (inr new) ↦ (let r = has-map (λ t. t ++ ((p, x) ∷ [])) s faces new in
      subst (Climbs (p + 1) 255 0) r.2 (climbs_joined p x 255 0 r.0 (omega arith) small (has_of_all (Climbs p 255 0) r.0 faces h r.1)))
])

nonempty_joined : (s : Simplex) (v : Vertex) → is_nonempty (s ++ (v ∷ [])) ≡ true
nonempty_joined [] v = refl
nonempty_joined (w ∷ s) v = refl

simplex_joined : (p x : ℕ) (s : Simplex) → p + 1 ≤ 4 → x ≤ 255 → Climbs p 255 0 s → IsTaskSimplex (s ++ ((p, x) ∷ []))
simplex_joined p x s low small h =
    climbs_within 4 255 (s ++ ((p, x) ∷ [])) (nonempty_joined s (p, x))
    (climbs_wider (p + 1) 255 0 4 (s ++ ((p, x) ∷ [])) low (climbs_joined p x 255 0 s (omega arith) small h))

pub simplices_joined : (p x : ℕ) (faces : List Simplex) → p + 1 ≤ 4 → x ≤ 255 → All (Climbs p 255 0) faces → All (λ s. IsTaskSimplex (s ++ ((p, x) ∷ []))) faces
simplices_joined p x faces low small h =
    all_of_has (λ s. IsTaskSimplex (s ++ ((p, x) ∷ []))) faces (λ s here. simplex_joined p x s low small (has_of_all (Climbs p 255 0) s faces h here))

-- ---- the same faces

-- begins as one of these or with nothing, and goes on with some of the vertices
record Continues (faces : List Simplex) (s t : Simplex) : Type 0 where
  front : Simplex
  among : Has front ([] ∷ faces)
  part : Simplex
  chosen : Has part (parts_of s)
  whole : front ++ part ≡ t

continues : (faces : List Simplex) (s t : Simplex) → Has t ([] ∷ with_vertices faces s) → Continues faces s t
continues faces [] t h = record { front = t; among = h; part = []; chosen = inl refl; whole = append-nil t }
continues faces (v ∷ s) t h = by (continues (with_vertex faces v) s t h)
  where
    with : (part : Simplex) → Has part (parts_of s) → Has (v ∷ part) (parts_of (v ∷ s))
    with part here = has-append_left (v ∷ part) (map (λ rest. v ∷ rest) (parts_of s)) (parts_of s) (has_cons v part (parts_of s) here)

    without : (part : Simplex) → Has part (parts_of s) → Has part (parts_of (v ∷ s))
    without part here = has-append_right part (map (λ rest. v ∷ rest) (parts_of s)) (parts_of s) here

    from : (c : Continues (with_vertex faces v) s t) → Has c.front ([] ∷ with_vertex faces v) → Continues faces (v ∷ s) t
    from c (inl e) = record { front = c.front; among = inl e; part = c.part; chosen = without c.part c.chosen; whole = c.whole }
    from c (inr h) = elim (has-append c.front faces ((v ∷ []) ∷ joined v faces) h) [
      | inl old ↦ record { front = c.front; among = inr old; part = c.part; chosen = without c.part c.chosen; whole = c.whole }
      | inr (inl e) ↦ record { front = []; among = inl refl; part = v ∷ c.part; chosen = with c.part c.chosen; whole = ap (λ f. f ++ c.part) e ∙ c.whole }
      | inr (inr new) ↦ (let r = has-map (λ t. t ++ (v ∷ [])) c.front faces new in
          record {
            front = r.0;
            among = inr r.1;
            part = v ∷ c.part;
            chosen = with c.part c.chosen;
            whole = sym (append_assoc r.0 (v ∷ []) c.part) ∙ ap (λ f. f ++ c.part) r.2 ∙ c.whole;
          })
    ]

    by : Continues (with_vertex faces v) s t → Continues faces (v ∷ s) t
    by c = from c c.among

stays : (front : Simplex) (faces : List Simplex) (v : Vertex) → Has front ([] ∷ faces) → Has front ([] ∷ with_vertex faces v)
stays front faces v (inl e) = inl e
stays front faces v (inr h) = inr (has-append_left front faces ((v ∷ []) ∷ joined v faces) h)

is_joined : (front : Simplex) (faces : List Simplex) (v : Vertex) → Has front ([] ∷ faces) → Has (front ++ (v ∷ [])) ([] ∷ with_vertex faces v)
is_joined front faces v (inl e) = inr (has-append_right (front ++ (v ∷ [])) faces ((v ∷ []) ∷ joined v faces) (inl (ap (λ f. f ++ (v ∷ [])) e)))
is_joined front faces v (inr h) = inr (has-append_right (front ++ (v ∷ [])) faces ((v ∷ []) ∷ joined v faces) (inr (map-has (λ t. t ++ (v ∷ [])) front faces h)))

continued : (faces : List Simplex) (s front part t : Simplex) → Has front ([] ∷ faces) → Has part (parts_of s) → front ++ part ≡ t → Has t ([] ∷ with_vertices faces s)
continued faces [] front part t among (inl e) whole = subst (λ u. Has u ([] ∷ faces)) (sym (append-nil front) ∙ ap (λ p. front ++ p) e ∙ whole) among
continued faces [] front part t among (inr none) whole = absurd none
continued faces (v ∷ s) front part t among chosen whole =
    elim (has-append part (map (λ rest. v ∷ rest) (parts_of s)) (parts_of s) chosen) [
      | inl with ↦ (let b = begins v part (parts_of s) with in
          continued (with_vertex faces v) s (front ++ (v ∷ [])) b.0 t (is_joined front faces v among) b.2
          (append_assoc front (v ∷ []) b.0 ∙ ap (λ p. front ++ p) b.1 ∙ whole))
      | inr without ↦ continued (with_vertex faces v) s front part t (stays front faces v among) without whole
    ]

all_nonempty : (faces : List Simplex) (s : Simplex) → ((t : Simplex) → Has t faces → is_nonempty t ≡ true) → (t : Simplex) → Has t (with_vertices faces s) → is_nonempty t ≡ true
all_nonempty faces [] some t h = some t h
all_nonempty faces (v ∷ s) some t h =
    all_nonempty (with_vertex faces v) s (λ u here. elim (has-append u faces ((v ∷ []) ∷ joined v faces) here) [
      | inl old ↦ some u old
      | inr (inl e) ↦ subst (λ w. is_nonempty w ≡ true) e refl
      | inr (inr new) ↦ (let r = has-map (λ w. w ++ (v ∷ [])) u faces new in subst (λ w. is_nonempty w ≡ true) r.2 (nonempty_joined r.0 v))
    ]) t h

pub in_turn-has : (s t : Simplex) → Has t (faces_in_turn s) → Has t (faces_of s)
in_turn-has s t h = by (continues [] s t (inr h))
  where
    from : (c : Continues [] s t) → Has c.front ([] ∷ []) → Has t (faces_of s)
    from c (inl e) =
        filter-has is_nonempty t (parts_of s) (subst (λ p. Has p (parts_of s)) (ap (λ f. f ++ c.part) e ∙ c.whole) c.chosen)
        (all_nonempty [] s (λ u here. absurd here) t h)
    from c (inr none) = absurd none

    by : Continues [] s t → Has t (faces_of s)
    by c = from c c.among

pub has-in_turn : (s t : Simplex) → Has t (faces_of s) → Has t (faces_in_turn s)
has-in_turn s t h =
    let p = has-filter is_nonempty t (parts_of s) h in
    elim (continued [] s [] t t (inl refl) p.0 refl) [
      | inl e ↦ absurd (empty t e p.1)
      | inr g ↦ g
    ]
  where
    empty : (t : Simplex) → [] ≡ t → is_nonempty t ≡ true → ⊥
    empty [] e some = cc
    empty (v ∷ t) e some = cc
