-- The outputs of renaming: different names for any of the processes.
use Rattle.std.proofs.Common.{◌≡◌, ℕ, zero, suc, ◌+◌, ◌<◌, ◌≤◌, Bool, true, false, not, nat_lt, List, [], ◌∷◌, length, map, filter, flat_map, zip, inl, inr, refl, sym, ap, ◌∙◌, subst, arith, lit≤, ltb-true}
use Rattle.std.specs.Ordering.{nat_cmp}
use Rattle.std.specs.Cmp.Lexicographic.{slice_cmp}
use Rattle.std.proofs.lemmas.List.{length-map}
use Rattle.std.proofs.lemmas.List.Kept.{IsStrictlySortedBy-filter}
use Rattle.std.proofs.lemmas.Bool.{ltb-false}
use Rattle.wf_model.specs.Lists.{below, lists_of, in_order}
use Rattle.wf_model.specs.Presets.{namings, all_different}
use Rattle.wf_model.specs.Simplex.{Simplex, Vertex, processes_of, is_nonempty, parts_of, faces_of, simplex_cmp, complex_of}
use Rattle.wf_model.specs.Task.{Tuple}
use Rattle.wf_model.proofs.Lemmas.{length_filter, length-below, nonempty_length}
use Rattle.wf_simplex.specs.Order.{simplex_cmp-total, simplex_cmp-Equal}
use Rattle.wf_simplex.proofs.Lemmas.{Has, has-append, has-in_order, in_order-has, sorted-in_order, same_in_order, length-in_order, begins, has-filter, filter-has, has-flat_map, flat_map-has, whole_is_part, part_of_part, of_some_facet, is_in_complex, complex_of-sorted}
use Rattle.wf_task.specs.Canonical.{is_inner, facets}
use Rattle.wf_task.proofs.Lemmas.{sorted-lists_of, sorted-below, map-has, has-map, has-lists_of, lists_of-has, has-below, below-has, each_has, has_each, Differ, differ, all_different-from, vertex_of_part, facets-pure, length-zip-same, sorted-zips, map-part, named, unzipped, nonempty-long, part-face, facet-in, images, has-images, images-has}

-- the inputs before a name is taken
abbrev pub start : ℕ → Simplex
start n = map (λ p. (p, 0)) (below n)

-- the tuples of an input simplex
abbrev pub naming : ℕ → Simplex → List Tuple
naming names s = namings names (length s)

-- different names for some of the processes
abbrev pub named_parts : ℕ → ℕ → List Simplex
named_parts n names = flat_map (λ ps. map (zip ps) (namings names (length ps))) (filter is_nonempty (parts_of (below n)))

pub record IsNaming (n names : ℕ) (t : Simplex) (ps ys : List ℕ) : Type 0 where
  pub part : Has ps (parts_of (below n))
  pub some : is_nonempty ps ≡ true
  pub long : length ys ≡ length ps
  pub differ : Differ ys
  pub low : (z : ℕ) → Has z ys → z < names
  pub same : zip ps ys ≡ t

pub has-namings : (names size : ℕ) (ys : Tuple) → Has ys (namings names size) → (length ys ≡ size) × Differ ys × ((z : ℕ) → Has z ys → z < names)
has-namings names size ys h =
    let passes = has-filter all_different ys (lists_of (below names) size) h in
    let list = has-lists_of ys (below names) size passes.0 in
    (list.0, differ ys passes.1, λ z g. has-below z names (each_has (λ y. Has y (below names)) z ys list.1 g))

pub namings-has : (names size : ℕ) (ys : Tuple) → length ys ≡ size → Differ ys → ((z : ℕ) → Has z ys → z < names) → Has ys (namings names size)
namings-has names size ys long differs low =
    filter-has all_different ys (lists_of (below names) size)
    (subst (λ k. Has ys (lists_of (below names) k)) long (lists_of-has ys (below names) (has_each (λ z. Has z (below names)) ys (λ z h. below-has z names (low z h)))))
    (all_different-from ys differs)

has-named_parts : (n names : ℕ) (t : Simplex) → Has t (named_parts n names) → (ps : List ℕ) × (ys : List ℕ) × IsNaming n names t ps ys
has-named_parts n names t h =
    let ps = has-flat_map (λ ps. map (zip ps) (namings names (length ps))) t (filter is_nonempty (parts_of (below n))) h in
    let part = has-filter is_nonempty ps.0 (parts_of (below n)) ps.1 in
    let ys = has-map (zip ps.0) t (namings names (length ps.0)) ps.2 in
    let is = has-namings names (length ps.0) ys.0 ys.1 in
    (ps.0, ys.0, record { part = part.0; some = part.1; long = is.0; differ = is.1; low = is.2; same = ys.2 })

named_parts-has : (n names : ℕ) (t : Simplex) (ps ys : List ℕ) → IsNaming n names t ps ys → Has t (named_parts n names)
named_parts-has n names t ps ys h =
    flat_map-has (λ ps. map (zip ps) (namings names (length ps))) t ps (filter is_nonempty (parts_of (below n))) (filter-has is_nonempty ps (parts_of (below n)) h.part h.some)
    (subst (λ u. Has u (map (zip ps) (namings names (length ps)))) h.same (map-has (zip ps) ys (namings names (length ps)) (namings-has names (length ps) ys h.long h.differ h.low)))

differ-part : (xs ys : List ℕ) → Has ys (parts_of xs) → Differ xs → Differ ys
differ-part [] ys (inl e) h = subst Differ e tt
differ-part [] ys (inr none) h = absurd none
differ-part (x ∷ xs) ys g h =
    elim (has-append ys (map (λ (rest : List ℕ). x ∷ rest) (parts_of xs)) (parts_of xs) g) [
      | inl here ↦ (let b = begins x ys (parts_of xs) here in subst Differ b.1 ((λ k. h.0 (vertex_of_part x xs b.0 b.2 k)), differ-part xs b.0 b.2 h.1))
      | inr here ↦ differ-part xs ys here h.1
    ]

-- a face of a naming is one
face-naming : (n names : ℕ) (t u : Simplex) (ps ys : List ℕ) → IsNaming n names t ps ys → Has u (faces_of t) → (qs : List ℕ) × (zs : List ℕ) × IsNaming n names u qs zs
face-naming n names t u ps ys h g =
    let face = has-filter is_nonempty u (parts_of t) g in
    let r = unzipped ps ys u h.long (subst (λ w. Has u (parts_of w)) (sym h.same) face.0) in
    let wide : 0 < length u = nonempty_length u face.1 in (
      r.0,
      r.1,
      record {
        part = part_of_part (below n) ps r.0 h.part r.2.processes;
        some = nonempty-long r.0 (omega (arith, wide, ap length r.2.same, length-zip-same r.0 r.1 r.2.long));
        long = r.2.long;
        differ = differ-part ys r.1 r.2.values h.differ;
        low = λ z k. h.low z (vertex_of_part z ys r.1 r.2.values k);
        same = r.2.same;
      },
    )

pub processes-start : (qs : List ℕ) → processes_of (map (λ p. (p, 0)) qs) ≡ qs
processes-start [] = refl
processes-start (q ∷ qs) = ap (λ rest. q ∷ rest) (processes-start qs)

nonempty-processes : (s : Simplex) → is_nonempty s ≡ true → is_nonempty (processes_of s) ≡ true
nonempty-processes [] h = cc
nonempty-processes (v ∷ s) h = refl

nonempty-start : (qs : List ℕ) → is_nonempty qs ≡ true → is_nonempty {X = Vertex} (map (λ p. (p, 0)) qs) ≡ true
nonempty-start [] h = cc
nonempty-start (q ∷ qs) h = refl

image-naming : (n names : ℕ) (t : Simplex) → Has t (images (naming names) (complex_of (start n ∷ []))) → (ps : List ℕ) × (ys : List ℕ) × IsNaming n names t ps ys
image-naming n names t h =
    let i = has-images (naming names) (complex_of (start n ∷ [])) t h in
    let f = of_some_facet i.0 (start n ∷ []) i.2.input in
    let whole : start n ≡ f.0 = elim f.1 as (λ w. start n ≡ f.0) [ inl e ↦ e | inr none ↦ absurd none ] in
    let face = has-filter is_nonempty i.0 (parts_of f.0) f.2 in
    let part : Has i.0 (parts_of (start n)) = subst (λ u. Has i.0 (parts_of u)) (sym whole) face.0 in
    let is = has-namings names (length i.0) i.1 i.2.decided in (
      processes_of i.0,
      i.1,
      record {
        part = subst (λ qs. Has (processes_of i.0) (parts_of qs)) (processes-start (below n)) (map-part (λ (w : Vertex). w.0) (start n) i.0 part);
        some = nonempty-processes i.0 face.1;
        long = is.0 ∙ sym (length-map i.0 (λ (w : Vertex). w.0));
        differ = is.1;
        low = is.2;
        same = i.2.same;
      },
    )

naming-image : (n names : ℕ) (t : Simplex) (ps ys : List ℕ) → IsNaming n names t ps ys → Has t (images (naming names) (complex_of (start n ∷ [])))
naming-image n names t ps ys h =
    let s : Simplex = map (λ p. (p, 0)) ps in
    let here : Has s (complex_of (start n ∷ [])) = is_in_complex s (start n) (start n ∷ []) (inl refl) (part-face (start n) s (map-part (λ (p : ℕ). (p, 0)) (below n) ps h.part) (nonempty-start ps h.some)) in
    let decided : Has ys (namings names (length s)) = namings-has names (length s) ys (h.long ∙ sym (length-map ps (λ (p : ℕ). (p, 0)))) h.differ h.low in
    let image = images-has (naming names) (complex_of (start n ∷ [])) s ys here decided in
    subst (λ u. Has u (images (naming names) (complex_of (start n ∷ [])))) (ap (λ qs. zip qs ys) (processes-start ps) ∙ h.same) image

naming-nonempty : (n names : ℕ) (t : Simplex) (ps ys : List ℕ) → IsNaming n names t ps ys → is_nonempty t ≡ true
naming-nonempty n names t ps ys h =
    let wide = nonempty_length ps h.some in
    nonempty-long t (omega (arith, wide, ap length h.same, length-zip-same ps ys h.long))

-- all tuples of all input simplices
abbrev pub all_images : ℕ → ℕ → List Simplex
all_images n names = images (naming names) (complex_of (start n ∷ []))

-- the outputs are their complex
pub renaming-outputs : (n names : ℕ) → complex_of (all_images n names) ≡ in_order simplex_cmp (named_parts n names)
renaming-outputs n names =
    same_in_order simplex_cmp simplex_cmp-total simplex_cmp-Equal (complex_of (all_images n names)) (in_order simplex_cmp (named_parts n names))
    (complex_of-sorted (all_images n names)) (sorted-in_order simplex_cmp simplex_cmp-total simplex_cmp-Equal (named_parts n names))
    (λ t h. (let f = of_some_facet t (all_images n names) h in
    let whole = image-naming n names f.0 f.1 in
    let part = face-naming n names f.0 t whole.0 whole.1 whole.2 f.2 in
    in_order-has simplex_cmp simplex_cmp-total simplex_cmp-Equal t (named_parts n names) (named_parts-has n names t part.0 part.1 part.2)))
    (λ t h. (let is = has-named_parts n names t (has-in_order simplex_cmp simplex_cmp-total simplex_cmp-Equal t (named_parts n names) h) in
    facet-in t (all_images n names) (naming-image n names t is.0 is.1 is.2) (naming-nonempty n names t is.0 is.1 is.2)))

-- ---- facets

abbrev pub all_named : ℕ → ℕ → List Simplex
all_named n names = map (zip (below n)) (namings names n)

all_named-naming : (n names : ℕ) (f : Simplex) → 1 ≤ n → Has f (all_named n names) → (ys : List ℕ) × IsNaming n names f (below n) ys
all_named-naming n names f some h =
    let ys = has-map (zip (below n)) f (namings names n) h in
    let is = has-namings names n ys.0 ys.1 in (
      ys.0,
      record {
        part = whole_is_part (below n);
        some = nonempty-long (below n) (omega (arith, some, length-below n));
        long = is.0 ∙ sym (length-below n);
        differ = is.1;
        low = is.2;
        same = ys.2;
      },
    )

-- where there are names for all, the facets are the names of all processes
pub renaming-facets : (n names : ℕ) → 1 ≤ n → n ≤ names → facets (in_order simplex_cmp (named_parts n names)) ≡ all_named n names
renaming-facets n names some enough = facets-pure n (all_named n names) (in_order simplex_cmp (named_parts n names)) (record {
  sorted = sorted-in_order simplex_cmp simplex_cmp-total simplex_cmp-Equal (named_parts n names);
  sorted_wholes = sorted-zips (below n) (namings names n)
      (has_each (λ t. length t ≡ length (below n)) (namings names n) (λ t h. (has-namings names n t h).0 ∙ sym (length-below n)))
      (IsStrictlySortedBy-filter (slice_cmp nat_cmp) all_different (lists_of (below names) n) (sorted-lists_of (below names) n (sorted-below names)));
  some = λ t h. (let is = parted t h in naming-nonempty n names t is.0 is.1 is.2);
  part = λ t h. (let is = parted t h in extended t is.0 is.1 is.2);
  within = λ f h. (let is = all_named-naming n names f some h in in_order-has simplex_cmp simplex_cmp-total simplex_cmp-Equal f (named_parts n names) (named_parts-has n names f (below n) is.0 is.1));
  long = λ f h. (let is = all_named-naming n names f some h in ap length (sym is.1.same) ∙ length-zip-same (below n) is.0 is.1.long ∙ length-below n);
})
  where
    parted : (t : Simplex) → Has t (in_order simplex_cmp (named_parts n names)) → (ps : List ℕ) × (ys : List ℕ) × IsNaming n names t ps ys
    parted t h = has-named_parts n names t (has-in_order simplex_cmp simplex_cmp-total simplex_cmp-Equal t (named_parts n names) h)

    extended : (t : Simplex) (ps ys : List ℕ) → IsNaming n names t ps ys → (f : Simplex) × Has f (all_named n names) × Has t (parts_of f)
    extended t ps ys h =
        let r = named names [] (below n) ps ys h.part h.long (record { differ = h.differ; low = h.low; new = λ z g none. none }) (let e : length {A = ℕ} [] + length (below n) ≤ names = omega (arith, enough, length-below n) in e) in (
          zip (below n) r.0,
          map-has (zip (below n)) r.0 (namings names n) (namings-has names n r.0 (r.1.long ∙ length-below n) r.1.differ r.1.low),
          subst (λ u. Has u (parts_of (zip (below n) r.0))) h.same r.1.part,
        )

-- where there are not, there are few
few_parts : (n names : ℕ) → n ≤ 4 → 1 ≤ names → names < n → length (named_parts n names) ≤ 255
few_parts zero names few some less = absurd (let none : ⊥ = omega (arith, less) in none)
few_parts (suc zero) names few some less = absurd (let none : ⊥ = omega (arith, less, some) in none)
few_parts (suc (suc zero)) zero few some less = absurd (let none : ⊥ = omega (arith, some) in none)
few_parts (suc (suc zero)) (suc zero) few some less = lit≤ tt
few_parts (suc (suc zero)) (suc (suc names)) few some less = absurd (let none : ⊥ = omega (arith, less) in none)
few_parts (suc (suc (suc zero))) zero few some less = absurd (let none : ⊥ = omega (arith, some) in none)
few_parts (suc (suc (suc zero))) (suc zero) few some less = lit≤ tt
few_parts (suc (suc (suc zero))) (suc (suc zero)) few some less = lit≤ tt
few_parts (suc (suc (suc zero))) (suc (suc (suc names))) few some less = absurd (let none : ⊥ = omega (arith, less) in none)
few_parts (suc (suc (suc (suc zero)))) zero few some less = absurd (let none : ⊥ = omega (arith, some) in none)
few_parts (suc (suc (suc (suc zero)))) (suc zero) few some less = lit≤ tt
few_parts (suc (suc (suc (suc zero)))) (suc (suc zero)) few some less = lit≤ tt
few_parts (suc (suc (suc (suc zero)))) (suc (suc (suc zero))) few some less = lit≤ tt
few_parts (suc (suc (suc (suc zero)))) (suc (suc (suc (suc names)))) few some less = absurd (let none : ⊥ = omega (arith, less) in none)
few_parts (suc (suc (suc (suc (suc n))))) names few some less = absurd (let none : ⊥ = omega (arith, few) in none)

few_namings : (n names : ℕ) → n ≤ 4 → 1 ≤ names → names < n → length (namings names n) ≤ 255
few_namings zero names few some less = absurd (let none : ⊥ = omega (arith, less) in none)
few_namings (suc zero) names few some less = absurd (let none : ⊥ = omega (arith, less, some) in none)
few_namings (suc (suc zero)) zero few some less = absurd (let none : ⊥ = omega (arith, some) in none)
few_namings (suc (suc zero)) (suc zero) few some less = lit≤ tt
few_namings (suc (suc zero)) (suc (suc names)) few some less = absurd (let none : ⊥ = omega (arith, less) in none)
few_namings (suc (suc (suc zero))) zero few some less = absurd (let none : ⊥ = omega (arith, some) in none)
few_namings (suc (suc (suc zero))) (suc zero) few some less = lit≤ tt
few_namings (suc (suc (suc zero))) (suc (suc zero)) few some less = lit≤ tt
few_namings (suc (suc (suc zero))) (suc (suc (suc names))) few some less = absurd (let none : ⊥ = omega (arith, less) in none)
few_namings (suc (suc (suc (suc zero)))) zero few some less = absurd (let none : ⊥ = omega (arith, some) in none)
few_namings (suc (suc (suc (suc zero)))) (suc zero) few some less = lit≤ tt
few_namings (suc (suc (suc (suc zero)))) (suc (suc zero)) few some less = lit≤ tt
few_namings (suc (suc (suc (suc zero)))) (suc (suc (suc zero))) few some less = lit≤ tt
few_namings (suc (suc (suc (suc zero)))) (suc (suc (suc (suc names)))) few some less = absurd (let none : ⊥ = omega (arith, less) in none)
few_namings (suc (suc (suc (suc (suc n))))) names few some less = absurd (let none : ⊥ = omega (arith, few) in none)

not_more : (a most : ℕ) → a ≤ most → nat_lt most a ≡ false
not_more a most h = by (nat_lt most a) refl
  where
    by : (b : Bool) → nat_lt most a ≡ b → b ≡ false
    by true e = absurd (let l : most < a = ltb-true most a e in omega arith)
    by false e = refl

-- the outputs have as many facets as all processes have names, or few
pub many-facets : (n names most : ℕ) → 1 ≤ n → n ≤ 4 → 1 ≤ names → 255 ≤ most → nat_lt most (length (facets (in_order simplex_cmp (named_parts n names)))) ≡ nat_lt most (length (namings names n))
many-facets n names most some few named' room = by (nat_lt names n) refl
  where
    by : (b : Bool) → nat_lt names n ≡ b → nat_lt most (length (facets (in_order simplex_cmp (named_parts n names)))) ≡ nat_lt most (length (namings names n))
    by true is =
        let less : names < n = ltb-true names n is in
        let parts = length_filter (λ s. not (is_inner (in_order simplex_cmp (named_parts n names)) s)) (in_order simplex_cmp (named_parts n names)) in
        not_more (length (facets (in_order simplex_cmp (named_parts n names)))) most (omega (arith, parts, length-in_order simplex_cmp (named_parts n names), few_parts n names few named' less, room))
        ∙ sym (not_more (length (namings names n)) most (omega (arith, few_namings n names few named' less, room)))
    by false is =
        let enough : n ≤ names = ltb-false names n is in
        ap (λ fs. nat_lt most (length fs)) (renaming-facets n names some enough) ∙ ap (nat_lt most) (length-map (namings names n) (zip (below n)))
