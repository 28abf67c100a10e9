-- The faces of simplices, and the complex of some facets.
use Rattle.std.proofs.Common.{◌≡◌, ◌≤◌, Bool, true, false, List, [], ◌∷◌, length, map, filter, flat_map, cond, inl, inr, refl, sym, ap, ◌∙◌, subst, arith}
use Rattle.std.specs.List.Sorted.{IsStrictlySortedBy}
use Rattle.wf_model.specs.Simplex.{Simplex, is_nonempty, parts_of, faces_of, simplex_cmp, complex_of}
use Rattle.wf_model.proofs.Lemmas.{length_filter}
use Rattle.wf_simplex.specs.Order.{simplex_cmp-total, simplex_cmp-Equal}
use Rattle.wf_simplex.proofs.Orders.{Has, has-append, has-append_left, has-append_right, has-in_order, in_order-has, sorted-in_order, same_in_order}

-- ---- parts

pub has_cons : {X : Type 0} (x : X) (t : List X) (ps : List (List X)) → Has t ps → Has (x ∷ t) (map (λ rest. x ∷ rest) ps)
has_cons x t [] h = absurd h
has_cons x t (p ∷ ps) (inl e) = inl (ap (λ rest. x ∷ rest) e)
has_cons x t (p ∷ ps) (inr h) = inr (has_cons x t ps h)

-- what stands in a list of lists that begin with x begins with it
pub begins : {X : Type 0} (x : X) (t : List X) (ps : List (List X)) → Has t (map (λ rest. x ∷ rest) ps) → (rest : List X) × (x ∷ rest ≡ t) × Has rest ps
begins x t [] h = absurd h
begins x t (p ∷ ps) (inl e) = (p, e, inl refl)
begins x t (p ∷ ps) (inr h) = let b = begins x t ps h in (b.0, b.1, inr b.2)

pub whole_is_part : {X : Type 0} (s : List X) → Has s (parts_of s)
whole_is_part [] = inl refl
whole_is_part (x ∷ s) = has-append_left (x ∷ s) (map (λ rest. x ∷ rest) (parts_of s)) (parts_of s) (has_cons x s (parts_of s) (whole_is_part s))

-- a part of a part is a part
pub part_of_part : {X : Type 0} (s t u : List X) → Has t (parts_of s) → Has u (parts_of t) → Has u (parts_of s)
part_of_part [] t u (inl e) h = subst (λ w. Has u (parts_of w)) (sym e) h
part_of_part [] t u (inr g) h = absurd g
part_of_part {X} (x ∷ s) t u g h =
    elim (has-append t (map (λ rest. x ∷ rest) (parts_of s)) (parts_of s) g) [
      | inl here ↦ (let b = begins x t (parts_of s) here in
          elim (has-append u (map (λ rest. x ∷ rest) (parts_of b.0)) (parts_of b.0) (subst (λ w. Has u (parts_of w)) (sym b.1) h)) [
            | inl there ↦ (let d = begins x u (parts_of b.0) there in
                has-append_left u (map (λ rest. x ∷ rest) (parts_of s)) (parts_of s)
                (subst (λ w. Has w (map (λ rest. x ∷ rest) (parts_of s))) d.1 (has_cons x d.0 (parts_of s) (part_of_part s b.0 d.0 b.2 d.2))))
            | inr there ↦ has-append_right u (map (λ rest. x ∷ rest) (parts_of s)) (parts_of s) (part_of_part s b.0 u b.2 there)
          ])
      | inr here ↦ has-append_right u (map (λ rest. x ∷ rest) (parts_of s)) (parts_of s) (part_of_part s t u here h)
    ]

-- ---- what passes a test

pub has-filter : {X : Type 0} (p : X → Bool) (x : X) (xs : List X) → Has x (filter p xs) → Has x xs × (p x ≡ true)
has-filter p x [] h = absurd h
has-filter {X = X} p x (y ∷ ys) h = by (has-filter p x ys) (p y) refl h
  where
    by : (Has x (filter p ys) → Has x ys × (p x ≡ true)) → (b : Bool) → p y ≡ b → Has x (cond b (y ∷ filter p ys) (filter p ys)) → Has x (y ∷ ys) × (p x ≡ true)
    by deeper true is (inl e) = (inl e, subst (λ z. p z ≡ true) e is)
    by deeper true is (inr h) = let g = deeper h in (inr g.0, g.1)
    by deeper false is h = let g = deeper h in (inr g.0, g.1)

pub filter-has : {X : Type 0} (p : X → Bool) (x : X) (xs : List X) → Has x xs → p x ≡ true → Has x (filter p xs)
filter-has p x [] h k = h
filter-has {X = X} p x (y ∷ ys) h k = by (λ g. filter-has p x ys g k) (p y) refl h
  where
    by : (Has x ys → Has x (filter p ys)) → (b : Bool) → p y ≡ b → Has x (y ∷ ys) → Has x (cond b (y ∷ filter p ys) (filter p ys))
    by deeper true is (inl e) = inl e
    by deeper true is (inr h) = inr (deeper h)
    by deeper false is (inl e) = let no_way : true ≡ false = sym k ∙ subst (λ z. p z ≡ false) e is in cc
    by deeper false is (inr h) = deeper h

pub has-flat_map : {X Y : Type 0} (f : X → List Y) (y : Y) (xs : List X) → Has y (flat_map f xs) → (x : X) × Has x xs × Has y (f x)
has-flat_map f y [] h = absurd h
has-flat_map f y (x ∷ xs) h =
    elim (has-append y (f x) (flat_map f xs) h) [
      | inl g ↦ (x, inl refl, g)
      | inr g ↦ (let r = has-flat_map f y xs g in (r.0, inr r.1, r.2))
    ]

pub flat_map-has : {X Y : Type 0} (f : X → List Y) (y : Y) (x : X) (xs : List X) → Has x xs → Has y (f x) → Has y (flat_map f xs)
flat_map-has f y x [] h g = absurd h
flat_map-has f y x (z ∷ zs) (inl e) g = has-append_left y (f z) (flat_map f zs) (subst (λ w. Has y (f w)) (sym e) g)
flat_map-has f y x (z ∷ zs) (inr h) g = has-append_right y (f z) (flat_map f zs) (flat_map-has f y x zs h g)

-- ---- complexes

-- the simplices of a complex are the faces of its facets
pub of_some_facet : (t : Simplex) (facets : List Simplex) → Has t (complex_of facets) → (f : Simplex) × Has f facets × Has t (faces_of f)
of_some_facet t facets h = has-flat_map faces_of t facets (has-in_order simplex_cmp simplex_cmp-total simplex_cmp-Equal t (flat_map faces_of facets) h)

pub is_in_complex : (t f : Simplex) (facets : List Simplex) → Has f facets → Has t (faces_of f) → Has t (complex_of facets)
is_in_complex t f facets h g = in_order-has simplex_cmp simplex_cmp-total simplex_cmp-Equal t (flat_map faces_of facets) (flat_map-has faces_of t f facets h g)

face_of_face : (s t u : Simplex) → Has t (faces_of s) → Has u (faces_of t) → Has u (faces_of s)
face_of_face s t u h g =
    let a = has-filter is_nonempty t (parts_of s) h in
    let b = has-filter is_nonempty u (parts_of t) g in
    filter-has is_nonempty u (parts_of s) (part_of_part s t u a.0 b.0) b.1

face_of_itself : (s : Simplex) → is_nonempty s ≡ true → Has s (faces_of s)
face_of_itself s h = filter-has is_nonempty s (parts_of s) (whole_is_part s) h

nonempty_face : (s t : Simplex) → Has t (faces_of s) → is_nonempty t ≡ true
nonempty_face s t h = (has-filter is_nonempty t (parts_of s) h).1

-- a complex is closed under faces
pub complex_closed : (t u : Simplex) (facets : List Simplex) → Has t (complex_of facets) → Has u (faces_of t) → Has u (complex_of facets)
complex_closed t u facets h g =
    let f = of_some_facet t facets h in
    is_in_complex u f.0 facets f.1 (face_of_face f.0 t u f.2 g)

pub complex_of-sorted : (facets : List Simplex) → IsStrictlySortedBy simplex_cmp (complex_of facets)
complex_of-sorted facets = sorted-in_order simplex_cmp simplex_cmp-total simplex_cmp-Equal (flat_map faces_of facets)

-- the complex of the simplices of a complex is that complex
pub complex_of-complex_of : (facets : List Simplex) → complex_of (complex_of facets) ≡ complex_of facets
complex_of-complex_of facets =
    same_in_order simplex_cmp simplex_cmp-total simplex_cmp-Equal (complex_of (complex_of facets)) (complex_of facets)
    (complex_of-sorted (complex_of facets)) (complex_of-sorted facets)
    (λ t h. (let g = of_some_facet t (complex_of facets) h in complex_closed g.0 t facets g.1 g.2))
    (λ t h. (let g = of_some_facet t facets h in is_in_complex t t (complex_of facets) h (face_of_itself t (nonempty_face g.0 t g.2))))

-- ---- how many

length-parts_of : (s : Simplex) → length s ≤ 4 → length (parts_of s) ≤ 16
length-parts_of [] h = omega arith
length-parts_of (a ∷ []) h = omega arith
length-parts_of (a ∷ b ∷ []) h = omega arith
length-parts_of (a ∷ b ∷ c ∷ []) h = omega arith
length-parts_of (a ∷ b ∷ c ∷ d ∷ []) h = omega arith
length-parts_of (a ∷ b ∷ c ∷ d ∷ e ∷ s) h = absurd (let none : ⊥ = omega (arith, h) in none)

pub length-faces_of : (s : Simplex) → length s ≤ 4 → length (faces_of s) ≤ 16
length-faces_of s h = omega (arith, length_filter is_nonempty (parts_of s), length-parts_of s h)
