-- A complex is that of its facets, and a simplex is inner where it lies in a border.
use Rattle.std.proofs.Common.{◌≡◌, ℕ, zero, suc, ◌+◌, ◌*◌, ◌<◌, ◌≤◌, ◌==◌, ◌&&◌, Bool, true, false, not, nat_lt, List, [], ◌∷◌, length, map, flat_map, inl, inr, refl, sym, ap, ◌∙◌, subst, arith, ltb-true, eqb-true, length-append}
use Rattle.std.specs.Prelude.{remove}
use Rattle.std.specs.List.{AllByRecursion, list_any, list_all}
use Rattle.std.proofs.lemmas.Bool.{and_parts, and_from, lt-ltb, not-true}
use Rattle.std.proofs.lemmas.List.Kept.{IsStrictlySortedBy-filter}
use Rattle.wf_model.specs.Lists.{below}
use Rattle.wf_model.specs.Simplex.{Simplex, Vertex, processes_of, same_vertex, is_face, is_nonempty, is_ascending, parts_of, faces_of, simplex_cmp, complex_of}
use Rattle.wf_model.specs.Task.{IsSimplexWithin}
use Rattle.wf_model.proofs.Lemmas.{Ascends, ascends_from, nonempty_length}
use Rattle.wf_simplex.specs.Faces.{IsComplex}
use Rattle.wf_simplex.specs.Order.{simplex_cmp-total}
use Rattle.wf_simplex.proofs.Lemmas.{Has, has-append, length-in_order, begins, has-filter, filter-has, has-flat_map, flat_map-has, of_some_facet, is_in_complex, complex_of-sorted, part_of_part, length-faces_of, has_of_all, length-within, has-map, map-has}
use Rattle.wf_task.specs.Borders.{borders_if, borders_of}
use Rattle.wf_task.proofs.Listings.{has-below, below-has, length-among, each_has}
use Rattle.wf_task.specs.Canonical.{is_inner, facets}
use Rattle.wf_task.proofs.Facets.{length-part, whole-part, part-is_face, any-has, has-any}
use Rattle.wf_task.proofs.ExtendedValues.{with_first, without_first, no_part}
use Rattle.wf_task.proofs.Images.{nonempty-long, part-face, facet-in, complex_of-same}

-- ---- faces are parts

same-is : (v w : Vertex) → same_vertex v w ≡ true → v ≡ w
same-is v w h =
    let parts = and_parts (v.0 == w.0) (v.1 == w.1) h in
    let process = eqb-true v.0 w.0 parts.0 in
    let value = eqb-true v.1 w.1 parts.1 in
    λ i. (process i, value i)

has-same : (v : Vertex) (s : Simplex) → list_any (same_vertex v) s ≡ true → Has v s
has-same v s h = let w = has-any (same_vertex v) s h in subst (λ u. Has u s) (sym (same-is v w.0 w.2)) w.1

all-vertices : (s t : Simplex) → list_all (λ v. list_any (same_vertex v) t) s ≡ true → (v : Vertex) → Has v s → Has v t
all-vertices [] t h v g = absurd g
all-vertices (w ∷ s) t h v (inl e) = subst (λ u. Has u t) e (has-same w t (and_parts (list_any (same_vertex w) t) (list_all (λ u. list_any (same_vertex u) t) s) h).0)
all-vertices (w ∷ s) t h v (inr g) = all-vertices s t (and_parts (list_any (same_vertex w) t) (list_all (λ u. list_any (same_vertex u) t) s) h).1 v g

later : (p : ℕ) (v : Vertex) (s : Simplex) → AllByRecursion (λ q. p < q) (processes_of s) → Has v s → p < v.0
later p v s h g = each_has (λ q. p < q) v.0 (processes_of s) h (map-has (λ (w : Vertex). w.0) v s g)

-- vertices in order, all of which another simplex has, are a part of it
among-part : (s t : Simplex) → Ascends (processes_of s) → Ascends (processes_of t) → ((v : Vertex) → Has v s → Has v t) → Has s (parts_of t)
among-part [] t h g all = no_part t
among-part (v ∷ s) [] h g all = absurd (all v (inl refl))
among-part (v ∷ s) (w ∷ t) h g all = by (all v (inl refl)) (λ more. among-part s t h.1 g.1 more) (λ more. among-part (v ∷ s) t h g.1 more)
  where
    beyond : (p : ℕ) → w.0 ≡ p → (u : Vertex) → Has u (w ∷ t) → p < u.0 → Has u t
    beyond p is u (inl e) low = absurd (let none : ⊥ = omega (arith, low, is, ap (λ (x : Vertex). x.0) e) in none)
    beyond p is u (inr k) low = k

    by : Has v (w ∷ t) → (((u : Vertex) → Has u s → Has u t) → Has s (parts_of t)) → (((u : Vertex) → Has u (v ∷ s) → Has u t) → Has (v ∷ s) (parts_of t)) → Has (v ∷ s) (parts_of (w ∷ t))
    by (inl e) rest whole =
        let part = rest (λ u k. beyond v.0 (ap (λ (x : Vertex). x.0) e) u (all u (inr k)) (later v.0 u s h.0 k)) in
        subst (λ (x : Vertex). Has (x ∷ s) (parts_of (w ∷ t))) e (with_first w t s part)
    by (inr k) rest whole = without_first w t (v ∷ s) (whole (λ u j. outside u j (all u j)))
      where
        low : (u : Vertex) → Has u (v ∷ s) → w.0 < u.0
        low u (inl e) = let first : w.0 < v.0 = later w.0 v t g.0 k in omega (arith, first, ap (λ (x : Vertex). x.0) e)
        low u (inr j) = let first : w.0 < v.0 = later w.0 v t g.0 k in omega (arith, first, later v.0 u s h.0 j)

        outside : (u : Vertex) → Has u (v ∷ s) → Has u (w ∷ t) → Has u t
        outside u j there = beyond w.0 refl u there (low u j)

ascends-within : (s : Simplex) → IsSimplexWithin 4 255 s → Ascends (processes_of s)
ascends-within s h = ascends_from (processes_of s) (and_parts (is_nonempty s) (is_ascending (processes_of s)) h.is_simplex).1

pub face-part : (s t : Simplex) → IsSimplexWithin 4 255 s → IsSimplexWithin 4 255 t → is_face s t ≡ true → Has s (parts_of t)
face-part s t h g face =
    among-part s t (ascends-within s h) (ascends-within t g) (all-vertices s t (and_parts (is_nonempty s) (list_all (λ v. list_any (same_vertex v) t) s) face).1)

-- ---- one vertex less

pub removed-part : (t : Simplex) (i : ℕ) → i < length t → Has (remove t i) (parts_of t) × (length (remove t i) < length t)
removed-part [] i low = absurd (let none : ⊥ = omega (arith, low) in none)
removed-part (v ∷ t) zero low = (without_first v t t (itself t), omega arith)
  where
    itself : (u : Simplex) → Has u (parts_of u)
    itself [] = inl refl
    itself (w ∷ u) = with_first w u u (itself u)
removed-part (v ∷ t) (suc i) low = let r = removed-part t i (omega (arith, low)) in (with_first v t (remove t i) r.0, omega (arith, r.1))

-- ---- inner simplices

-- a simplex of which another one is a proper part
pub record IsOuter (complex : List Simplex) (s t : Simplex) : Type 0 where
  pub there : Has t complex
  pub part : Has s (parts_of t)
  pub larger : length s < length t

module _ (complex : List Simplex) (h : IsComplex complex) where
  pub within-complex : (s : Simplex) → Has s complex → IsSimplexWithin 4 255 s
  within-complex s here = has_of_all (IsSimplexWithin 4 255) s complex h.within here

  nonempty-complex : (s : Simplex) → Has s complex → is_nonempty s ≡ true
  nonempty-complex s here = (and_parts (is_nonempty s) (is_ascending (processes_of s)) (within-complex s here).is_simplex).0

  pub outer : (s : Simplex) → Has s complex → is_inner complex s ≡ true → (t : Simplex) × IsOuter complex s t
  outer s here inner =
      let t = has-any (λ u. is_face s u && nat_lt (length s) (length u)) complex inner in
      let parts = and_parts (is_face s t.0) (nat_lt (length s) (length t.0)) t.2 in
      (t.0, record { there = t.1; part = face-part s t.0 (within-complex s here) (within-complex t.0 t.1) parts.0; larger = ltb-true (length s) (length t.0) parts.1 })

  pub inner-from : (s t : Simplex) → is_nonempty s ≡ true → IsOuter complex s t → is_inner complex s ≡ true
  inner-from s t some o =
      any-has (λ u. is_face s u && nat_lt (length s) (length u)) t complex o.there
      (and_from (is_face s t) (nat_lt (length s) (length t)) (part-is_face t s some o.part) (lt-ltb (length s) (length t) o.larger))

  -- ---- a complex is that of its facets

  -- each simplex is a face of a facet; the fuel is how many vertices larger ones may have
  facet-of : (fuel : ℕ) (s : Simplex) → Has s complex → 5 ≤ length s + fuel → (f : Simplex) × Has f (facets complex) × Has s (faces_of f)
  facet-of zero s here enough = absurd (let none : ⊥ = omega (arith, enough, length-within 4 255 s (within-complex s here)) in none)
  facet-of (suc fuel) s here enough = by (is_inner complex s) refl (λ t there more. facet-of fuel t there more)
    where
      by : (b : Bool) → is_inner complex s ≡ b → ((t : Simplex) → Has t complex → 5 ≤ length t + fuel → (f : Simplex) × Has f (facets complex) × Has t (faces_of f)) → (f : Simplex) × Has f (facets complex) × Has s (faces_of f)
      by true is deeper =
          let t = outer s here is in
          let f = deeper t.0 t.1.there (omega (arith, t.1.larger, enough)) in
          let face = has-filter is_nonempty t.0 (parts_of f.0) f.2 in
          (f.0, f.1, part-face f.0 s (part_of_part f.0 t.0 s face.0 t.1.part) (nonempty-complex s here))
      by false is deeper =
          (s, filter-has (λ u. not (is_inner complex u)) s complex here (ap not is), part-face s s (whole_part s) (nonempty-complex s here))
        where
          whole_part : (u : Simplex) → Has u (parts_of u)
          whole_part [] = inl refl
          whole_part (v ∷ u) = with_first v u u (whole_part u)

  pub complex_of-facets : complex_of (facets complex) ≡ complex
  complex_of-facets =
      complex_of-same (facets complex) complex
      (λ s f. facet-in s complex (has-filter (λ u. not (is_inner complex u)) s complex f).0 (nonempty-complex s (has-filter (λ u. not (is_inner complex u)) s complex f).0))
      (λ s here. (let f = facet-of 5 s here (omega arith) in is_in_complex s f.0 (facets complex) f.1 f.2))
      ∙ h.closed

  -- ---- borders

  pub inner-border : (s : Simplex) → Has s complex → is_inner complex s ≡ true → Has s (complex_of (flat_map borders_of complex))
  inner-border s here inner =
      let t = outer s here inner in
      let i = missing s t.0 t.1.part t.1.larger in
      let wide : 1 < length t.0 = omega (arith, t.1.larger, nonempty_length s (nonempty-complex s here)) in
      is_in_complex s (remove t.0 i.0) (flat_map borders_of complex)
      (flat_map-has borders_of (remove t.0 i.0) t.0 complex t.1.there (subst (λ b. Has (remove t.0 i.0) (borders_if b t.0)) (sym (lt-ltb 1 (length t.0) wide)) (map-has (remove t.0) i.0 (below (length t.0)) (below-has i.0 (length t.0) i.1))))
      (part-face (remove t.0 i.0) s i.2 (nonempty-complex s here))
    where
      missing : (s t : Simplex) → Has s (parts_of t) → length s < length t → (i : ℕ) × (i < length t) × Has s (parts_of (remove t i))
      missing s [] part larger = absurd (let none : ⊥ = omega (arith, larger) in none)
      missing s (v ∷ t) part larger =
          elim (has-append s (map (λ (rest : Simplex). v ∷ rest) (parts_of t)) (parts_of t) part) [
            | inl with ↦ (let b = begins v s (parts_of t) with in
                let i = missing b.0 t b.2 (let e : length b.0 < length t = omega (arith, larger, ap length b.1) in e) in
                (suc i.0, omega (arith, i.1), subst (λ (u : Simplex). Has u (parts_of (v ∷ remove t i.0))) b.1 (with_first v (remove t i.0) b.0 i.2)))
            | inr without ↦ (0, omega arith, without)
          ]

  pub border-inner : (s : Simplex) → Has s (complex_of (flat_map borders_of complex)) → is_inner complex s ≡ true
  border-inner s here =
      let b = of_some_facet s (flat_map borders_of complex) here in
      let t = has-flat_map borders_of b.0 complex b.1 in
      let face = has-filter is_nonempty s (parts_of b.0) b.2 in
      by b.0 t.0 t.1 face.1 face.0 (nat_lt 1 (length t.0)) t.2
    where
      by : (b t : Simplex) → Has t complex → is_nonempty s ≡ true → Has s (parts_of b) → (wide : Bool) → Has b (borders_if wide t) → is_inner complex s ≡ true
      by b t there some part true h' =
          let i = has-map (remove t) b (below (length t)) h' in
          let r = removed-part t i.0 (has-below i.0 (length t) i.1) in
          inner-from s t some (record {
            there = there;
            part = part_of_part t b s (subst (λ u. Has u (parts_of t)) i.2 r.0) part;
            larger = omega (arith, length-part b s part, ap length i.2, r.1);
          })
      by b t there some part false none = absurd none

-- ---- how many

facet-listed : (listed : List Simplex) (t : Simplex) → Has t (facets (complex_of listed)) → Has t listed
facet-listed listed t here =
    let outside = has-filter (λ s. not (is_inner (complex_of listed) s)) t (complex_of listed) here in
    let f = of_some_facet t listed outside.0 in
    let face = has-filter is_nonempty t (parts_of f.0) f.2 in
    by f.0 f.1 face.0 face.1 (not-true (is_inner (complex_of listed) t) outside.1) (nat_lt (length t) (length f.0)) refl
  where
    by : (f : Simplex) → Has f listed → Has t (parts_of f) → is_nonempty t ≡ true → is_inner (complex_of listed) t ≡ false → (b : Bool) → nat_lt (length t) (length f) ≡ b → Has t listed
    by f there part some outside true is =
        let wide : 0 < length f = omega (arith, ltb-true (length t) (length f) is) in
        let inner = any-has (λ u. is_face t u && nat_lt (length t) (length u)) f (complex_of listed) (facet-in f listed there (nonempty-long f wide)) (and_from (is_face t f) (nat_lt (length t) (length f)) (part-is_face f t some part) is) in
        let none : true ≡ false = sym inner ∙ outside in cc
    by f there part some outside false is =
        let long : length t ≡ length f = grind (arith, length-part f t part, is) in
        subst (λ u. Has u listed) (sym (whole-part f t part long)) there

-- a complex has no more facets than simplices were listed for it
pub length-facets : (listed : List Simplex) → length (facets (complex_of listed)) ≤ length listed
length-facets listed =
    length-among simplex_cmp simplex_cmp-total (facets (complex_of listed)) listed
    (IsStrictlySortedBy-filter simplex_cmp (λ s. not (is_inner (complex_of listed) s)) (complex_of listed) (complex_of-sorted listed)) (facet-listed listed)

few_faces : (ss : List Simplex) → ((s : Simplex) → Has s ss → length s ≤ 4) → length (flat_map faces_of ss) ≤ length ss * 16
few_faces [] h = omega arith
few_faces (s ∷ ss) h = omega (arith, length-append (faces_of s) (flat_map faces_of ss), length-faces_of s (h s (inl refl)), few_faces ss (λ t g. h t (inr g)))

-- and at most sixteen faces for each facet
pub length-complex : (complex : List Simplex) → IsComplex complex → length complex ≤ length (facets complex) * 16
length-complex complex h =
    omega (
      arith,
      ap length (complex_of-facets complex h),
      length-in_order simplex_cmp (flat_map faces_of (facets complex)),
      few_faces (facets complex) (λ s g. length-within 4 255 s (within-complex complex h s (has-filter (λ u. not (is_inner complex u)) s complex g).0)),
    )
