-- The facets of complexes in which each simplex is a face of one with all processes.
use Rattle.std.proofs.Common.{◌≡◌, ℕ, ◌<◌, ◌≤◌, ◌==◌, ◌&&◌, Bool, true, false, not, nat_lt, List, [], ◌∷◌, length, map, inl, inr, refl, sym, ap, ◌∙◌, subst, arith, eq-eqb, ltb-true}
use Rattle.std.specs.List.{list_any, list_all}
use Rattle.std.specs.List.Sorted.{IsStrictlySortedBy}
use Rattle.std.proofs.lemmas.Bool.{and_parts, and_from, or_left, or_right, or_cases, not-true}
use Rattle.std.proofs.lemmas.List.Kept.{IsStrictlySortedBy-filter}
use Rattle.wf_model.specs.Simplex.{Simplex, Vertex, same_vertex, is_face, is_nonempty, parts_of, simplex_cmp}
use Rattle.wf_simplex.specs.Order.{simplex_cmp-total, simplex_cmp-Equal}
use Rattle.wf_task.specs.Canonical.{is_inner, facets}
use Rattle.wf_simplex.proofs.Lemmas.{Has, has-append, same_in_order, begins, has-filter, filter-has}

-- ---- parts

pub vertex_of_part : {X : Type 0} (v : X) (s t : List X) → Has t (parts_of s) → Has v t → Has v s
vertex_of_part v [] t (inl e) g = subst (Has v) (sym e) g
vertex_of_part v [] t (inr none) g = absurd none
vertex_of_part {X} v (w ∷ s) t h g =
    elim (has-append t (map (λ rest. w ∷ rest) (parts_of s)) (parts_of s) h) [
      | inl here ↦ (let b = begins w t (parts_of s) here in by b.0 (λ k. vertex_of_part v s b.0 b.2 k) (subst (Has v) (sym b.1) g))
      | inr here ↦ inr (vertex_of_part v s t here g)
    ]
  where
    by : (rest : List X) → (Has v rest → Has v s) → Has v (w ∷ rest) → Has v (w ∷ s)
    by rest deeper (inl e) = inl e
    by rest deeper (inr k) = inr (deeper k)

pub length-part : {X : Type 0} (s t : List X) → Has t (parts_of s) → length t ≤ length s
length-part [] t (inl e) = omega (arith, ap length e)
length-part [] t (inr none) = absurd none
length-part (w ∷ s) t h =
    elim (has-append t (map (λ rest. w ∷ rest) (parts_of s)) (parts_of s) h) [
      | inl here ↦ (let b = begins w t (parts_of s) here in omega (arith, ap length b.1, length-part s b.0 b.2))
      | inr here ↦ omega (arith, length-part s t here)
    ]

-- a part as long as the whole is the whole
pub whole-part : {X : Type 0} (s t : List X) → Has t (parts_of s) → length t ≡ length s → t ≡ s
whole-part [] t (inl e) long = sym e
whole-part [] t (inr none) long = absurd none
whole-part {X} (w ∷ s) t h long =
    elim (has-append t (map (λ rest. w ∷ rest) (parts_of s)) (parts_of s) h) [
      | inl here ↦ (let b = begins w t (parts_of s) here in sym b.1 ∙ ap (λ (u : List X). w ∷ u) (whole-part s b.0 b.2 (let e : length b.0 ≡ length s = omega (arith, ap length b.1, long) in e)))
      | inr here ↦ absurd (let none : ⊥ = omega (arith, length-part s t here, long) in none)
    ]

same_vertex-itself : (v : Vertex) → same_vertex v v ≡ true
same_vertex-itself v = and_from (v.0 == v.0) (v.1 == v.1) (eq-eqb v.0 v.0 refl) (eq-eqb v.1 v.1 refl)

has-vertex : (v : Vertex) (s : Simplex) → Has v s → list_any (same_vertex v) s ≡ true
has-vertex v [] h = absurd h
has-vertex v (w ∷ s) (inl e) = or_left (same_vertex v w) (list_any (same_vertex v) s) (subst (λ u. same_vertex v u ≡ true) (sym e) (same_vertex-itself v))
has-vertex v (w ∷ s) (inr h) = or_right (same_vertex v w) (list_any (same_vertex v) s) (has-vertex v s h)

vertices-among : (s t : Simplex) → ((v : Vertex) → Has v t → Has v s) → list_all (λ v. list_any (same_vertex v) s) t ≡ true
vertices-among s [] h = refl
vertices-among s (v ∷ t) h =
    and_from (list_any (same_vertex v) s) (list_all (λ v. list_any (same_vertex v) s) t) (has-vertex v s (h v (inl refl))) (vertices-among s t (λ w g. h w (inr g)))

pub part-is_face : (s t : Simplex) → is_nonempty t ≡ true → Has t (parts_of s) → is_face t s ≡ true
part-is_face s t some h = and_from (is_nonempty t) (list_all (λ v. list_any (same_vertex v) s) t) some (vertices-among s t (λ v g. vertex_of_part v s t h g))

-- ---- facets

pub any-has : {X : Type 0} (p : X → Bool) (x : X) (xs : List X) → Has x xs → p x ≡ true → list_any p xs ≡ true
any-has p x [] h g = absurd h
any-has p x (y ∷ ys) (inl e) g = or_left (p y) (list_any p ys) (subst (λ w. p w ≡ true) (sym e) g)
any-has p x (y ∷ ys) (inr h) g = or_right (p y) (list_any p ys) (any-has p x ys h g)

pub has-any : {X : Type 0} (p : X → Bool) (xs : List X) → list_any p xs ≡ true → (x : X) × Has x xs × (p x ≡ true)
has-any p [] h = cc
has-any p (x ∷ xs) h =
    elim (or_cases (p x) (list_any p xs) h) [
      | inl here ↦ (x, inl refl, here)
      | inr later ↦ (let r = has-any p xs later in (r.0, inr r.1, r.2))
    ]

-- each simplex of the complex is a part of a whole one, and the whole ones
-- are the simplices of the largest size
pub record IsPure (n : ℕ) (wholes complex : List Simplex) : Type 0 where
  pub sorted : IsStrictlySortedBy simplex_cmp complex
  pub sorted_wholes : IsStrictlySortedBy simplex_cmp wholes
  pub some : (t : Simplex) → Has t complex → is_nonempty t ≡ true
  pub part : (t : Simplex) → Has t complex → (f : Simplex) × Has f wholes × Has t (parts_of f)
  pub within : (f : Simplex) → Has f wholes → Has f complex
  pub long : (f : Simplex) → Has f wholes → length f ≡ n

pub facets-pure : (n : ℕ) (wholes complex : List Simplex) → IsPure n wholes complex → facets complex ≡ wholes
facets-pure n wholes complex h =
    same_in_order simplex_cmp simplex_cmp-total simplex_cmp-Equal (facets complex) wholes
    (IsStrictlySortedBy-filter simplex_cmp (λ s. not (is_inner complex s)) complex h.sorted) h.sorted_wholes forth back
  where
    forth : (t : Simplex) → Has t (facets complex) → Has t wholes
    forth t here =
        let outer = has-filter (λ s. not (is_inner complex s)) t complex here in
        let f = h.part t outer.0 in
        by f.0 f.1 f.2 (not-true (is_inner complex t) outer.1) (h.some t outer.0) (nat_lt (length t) (length f.0)) refl
      where
        by : (f : Simplex) → Has f wholes → Has t (parts_of f) → is_inner complex t ≡ false → is_nonempty t ≡ true → (b : Bool) → nat_lt (length t) (length f) ≡ b → Has t wholes
        by f whole part outer some true is =
            let inner = any-has (λ u. is_face t u && nat_lt (length t) (length u)) f complex (h.within f whole) (and_from (is_face t f) (nat_lt (length t) (length f)) (part-is_face f t some part) is) in
            let no_way : true ≡ false = sym inner ∙ outer in cc
        by f whole part outer some false is =
            let long : length t ≡ length f = grind (arith, length-part f t part, is) in
            subst (λ u. Has u wholes) (sym (whole-part f t part long)) whole

    back : (f : Simplex) → Has f wholes → Has f (facets complex)
    back f whole = filter-has (λ s. not (is_inner complex s)) f complex (h.within f whole) (by (is_inner complex f) refl)
      where
        by : (b : Bool) → is_inner complex f ≡ b → not b ≡ true
        by false is = refl
        by true is =
            let r = has-any (λ u. is_face f u && nat_lt (length f) (length u)) complex is in
            let g = h.part r.0 r.1 in
            let low : length f < length r.0 = ltb-true (length f) (length r.0) (and_parts (is_face f r.0) (nat_lt (length f) (length r.0)) r.2).1 in
            absurd (let none : ⊥ = omega (arith, low, length-part g.0 r.0 g.2, h.long f whole, h.long g.0 g.1) in none)
