-- The outputs of set agreement: the decisions of all participants, and what
-- they decide in any part of them.
use Rattle.std.proofs.Common.{◌≡◌, ℕ, zero, suc, ◌*◌, ◌^◌, ◌<◌, ◌≤◌, ◌==◌, true, nat_le, List, [], ◌∷◌, length, map, filter, flat_map, zip, count_by, inl, inr, refl, sym, ap, ◌∙◌, subst, arith, le-leb, leb-true, eqb-true}
use Rattle.std.specs.List.{AllByRecursion}
use Rattle.std.specs.List.Sorted.{IsStrictlySortedBy}
use Rattle.std.specs.declared.cmp.Ordering.TheVariants.{Less}
use Rattle.std.specs.Ordering.{nat_cmp, ordering_then}
use Rattle.std.specs.Cmp.{nat_cmp_total, tied_itself}
use Rattle.std.specs.Cmp.Lexicographic.{slice_cmp}
use Rattle.std.proofs.lemmas.List.{length-map}
use Rattle.std.proofs.lemmas.List.Kept.{IsStrictlySortedBy-filter}
use Rattle.std.proofs.lemmas.List.Sums.{length-filter}
use Rattle.wf_model.specs.Lists.{below, lists_of, in_order}
use Rattle.wf_model.specs.Presets.{Inputs, own, all, input_facets, input_values, agreeing, different}
use Rattle.wf_model.specs.Simplex.{Simplex, Vertex, processes_of, values_of, is_nonempty, parts_of, simplex_cmp, vertex_cmp, complex_of}
use Rattle.wf_model.specs.Task.{Tuple}
use Rattle.wf_model.proofs.Lemmas.{length_filter, length-below, values_of_zip, nonempty_length}
use Rattle.wf_simplex.specs.Order.{simplex_cmp-total, simplex_cmp-Equal, nat_cmp-Equal}
use Rattle.wf_simplex.proofs.Lemmas.{Has, has-in_order, in_order-has, same_in_order, has-filter, filter-has, has-flat_map, flat_map-has, of_some_facet, is_in_complex, complex_of-sorted}
use Rattle.wf_task.specs.Canonical.{facets}
use Rattle.wf_task.proofs.Lemmas.{length-lists_of, sorted-lists_of, sorted-pairs, sorted-below, map-has, has-map, has-lists_of, lists_of-has, has-below, below-has, length-among, length-pieces, each_has, has_each, different-among, vertex_of_part, facets-pure, length-zip-same, processes-zip-same, sorted-zips, map-part, single-part, repeated, nonempty-long, part-face, facet-in, complex_of-same, images, has-images, images-has}

-- ---- input facets

-- values of all processes
pub record IsFacet (n : ℕ) (vals : List ℕ) (f : Simplex) (v : List ℕ) : Type 0 where
  pub long : length v ≡ n
  pub same : zip (below n) v ≡ f
  pub values : (x : ℕ) → Has x v → Has x vals

-- an input facet whose values are those of a tuple, or more
pub record Covers (n : ℕ) (facets : List Simplex) (t v : List ℕ) : Type 0 where
  pub long : length v ≡ n
  pub there : Has (zip (below n) v) facets
  pub values : (x : ℕ) → Has x t → Has x v

pub is_facet : (n : ℕ) (choice : Inputs) (f : Simplex) → Has f (input_facets n choice) → (v : List ℕ) × IsFacet n (input_values n choice) f v
is_facet n own f (inl e) = (below n, record { long = length-below n; same = e; values = λ x h. h })
is_facet n own f (inr none) = absurd none
is_facet n (all m) f h =
    let v = has-map (zip (below n)) f (lists_of (below m) n) h in
    let list = has-lists_of v.0 (below m) n v.1 in
    (v.0, record { long = list.0; same = v.2; values = λ x g. each_has (λ y. Has y (below m)) x v.0 list.1 g })

pub covering : (n : ℕ) (choice : Inputs) (t : List ℕ) → length t ≡ n → ((x : ℕ) → Has x t → Has x (input_values n choice)) → (v : List ℕ) × Covers n (input_facets n choice) t v
covering n own t long vals = (below n, record { long = length-below n; there = inl refl; values = vals })
covering n (all m) t long vals = (
  t,
  record {
    long = long;
    there = map-has (zip (below n)) t (lists_of (below m) n) (subst (λ k. Has t (lists_of (below m) k)) long (lists_of-has t (below m) (has_each (λ x. Has x (below m)) t vals)));
    values = λ x h. h;
  },
)

facet-nonempty : (n : ℕ) (v : List ℕ) → 1 ≤ n → length v ≡ n → is_nonempty (zip (below n) v) ≡ true
facet-nonempty n v some long = nonempty-long (zip (below n) v) (omega (arith, length-zip-same (below n) v (long ∙ sym (length-below n)), length-below n, some))

-- ---- outputs

abbrev pub agreed : ℕ → Simplex → List Tuple
agreed k s = agreeing k (in_order nat_cmp (values_of s)) (length s)

-- the decisions of all processes
abbrev pub wholes : ℕ → ℕ → Inputs → List Simplex
wholes n k choice = map (zip (below n)) (agreeing k (input_values n choice) n)

-- a tuple that a part of the processes may decide
pub record IsAgreed (k : ℕ) (s : Simplex) (tuple : Tuple) : Type 0 where
  pub long : length tuple ≡ length s
  pub few : different tuple ≤ k
  pub values : (x : ℕ) → Has x tuple → Has x (values_of s)

pub has-agreed : (k : ℕ) (s : Simplex) (tuple : Tuple) → Has tuple (agreed k s) → IsAgreed k s tuple
has-agreed k s tuple h =
    let passes = has-filter (λ t. nat_le (different t) k) tuple (lists_of (in_order nat_cmp (values_of s)) (length s)) h in
    let list = has-lists_of tuple (in_order nat_cmp (values_of s)) (length s) passes.0 in
    record {
      long = list.0;
      few = leb-true (different tuple) k passes.1;
      values = λ x g. has-in_order nat_cmp nat_cmp_total nat_cmp-Equal x (values_of s) (each_has (λ y. Has y (in_order nat_cmp (values_of s))) x tuple list.1 g);
    }

pub agreeing-has : (k n : ℕ) (vals : List ℕ) (tuple : Tuple) → length tuple ≡ n → different tuple ≤ k → ((x : ℕ) → Has x tuple → Has x vals) → Has tuple (agreeing k vals n)
agreeing-has k n vals tuple long few values =
    filter-has (λ t. nat_le (different t) k) tuple (lists_of vals n)
    (subst (λ m. Has tuple (lists_of vals m)) long (lists_of-has tuple vals (has_each (λ x. Has x vals) tuple values)))
    (le-leb (different tuple) k few)

module _ (n k : ℕ) (choice : Inputs) (some : 1 ≤ n) where
  -- what participants decide is a face of what all processes decide
  image-in : (s : Simplex) (tuple : Tuple) → Has s (complex_of (input_facets n choice)) → Has tuple (agreed k s) → Has (zip (processes_of s) tuple) (complex_of (wholes n k choice))
  image-in s tuple here agrees =
      let f = of_some_facet s (input_facets n choice) here in
      let face = has-filter is_nonempty s (parts_of f.0) f.2 in
      let v = is_facet n choice f.0 f.1 in
      let a = has-agreed k s tuple agrees in
      let beside : length v.0 ≡ length (below n) = v.1.long ∙ sym (length-below n) in
      let processes : processes_of f.0 ≡ below n = ap processes_of (sym v.1.same) ∙ processes-zip-same (below n) v.0 beside in
      let values : values_of f.0 ≡ v.0 = ap values_of (sym v.1.same) ∙ values_of_zip (below n) v.0 beside in
      let ps : Has (processes_of s) (parts_of (below n)) = subst (λ qs. Has (processes_of s) (parts_of qs)) processes (map-part (λ (w : Vertex). w.0) f.0 s face.0) in
      let long : length tuple ≡ length (processes_of s) = a.long ∙ sym (length-map s (λ (w : Vertex). w.0)) in
      by tuple long a.few (λ x h. known f.0 v.0 face.0 values v.1.values x (a.values x h)) ps (omega (arith, a.long, nonempty_length s face.1))
    where
      known : (f : Simplex) (v : List ℕ) → Has s (parts_of f) → values_of f ≡ v → ((x : ℕ) → Has x v → Has x (input_values n choice)) → (x : ℕ) → Has x (values_of s) → Has x (input_values n choice)
      known f v part values vals x h =
          let w = has-map (λ (u : Vertex). u.1) x s h in
          vals x (subst (Has x) values (subst (λ y. Has y (values_of f)) w.2 (map-has (λ (u : Vertex). u.1) w.0 f (vertex_of_part w.0 f s part w.1))))

      by : (t : Tuple) → length t ≡ length (processes_of s) → different t ≤ k → ((x : ℕ) → Has x t → Has x (input_values n choice)) → Has (processes_of s) (parts_of (below n)) → 0 < length t
          → Has (zip (processes_of s) t) (complex_of (wholes n k choice))
      by [] long few vals ps wide = absurd (let none : ⊥ = omega (arith, wide) in none)
      by (x ∷ t) long few vals ps wide =
          let r = repeated x (below n) (processes_of s) (x ∷ t) ps long in
          let old : (z : ℕ) → Has z r.0 → Has z (x ∷ t) = λ z h. elim (r.1.old z h) [ inl e ↦ inl (sym e) | inr g ↦ g ] in
          let all = agreeing-has k n (input_values n choice) r.0 (r.1.long ∙ length-below n) (let e : different r.0 ≤ k = omega (arith, few, different-among r.0 (x ∷ t) old) in e) (λ z h. vals z (old z h)) in
          is_in_complex (zip (processes_of s) (x ∷ t)) (zip (below n) r.0) (wholes n k choice)
          (map-has (zip (below n)) r.0 (agreeing k (input_values n choice) n) all)
          (part-face (zip (below n) r.0) (zip (processes_of s) (x ∷ t)) r.1.part
          (nonempty-long (zip (processes_of s) (x ∷ t)) (omega (arith, length-zip-same (processes_of s) (x ∷ t) long, long, wide))))

  -- what all processes decide, those of some input facet decide
  whole-in : (tuple : Tuple) → Has tuple (agreeing k (input_values n choice) n) → Has (zip (below n) tuple) (images (agreed k) (complex_of (input_facets n choice)))
  whole-in tuple h =
      let passes = has-filter (λ t. nat_le (different t) k) tuple (lists_of (input_values n choice) n) h in
      let list = has-lists_of tuple (input_values n choice) n passes.0 in
      let v = covering n choice tuple list.0 (λ x g. each_has (λ y. Has y (input_values n choice)) x tuple list.1 g) in
      let beside : length v.0 ≡ length (below n) = v.1.long ∙ sym (length-below n) in
      let s = zip (below n) v.0 in
      let long : length s ≡ n = length-zip-same (below n) v.0 beside ∙ length-below n in
      let here = facet-in s (input_facets n choice) v.1.there (facet-nonempty n v.0 some v.1.long) in
      let agrees = agreeing-has k (length s) (in_order nat_cmp (values_of s)) tuple (list.0 ∙ sym long) (leb-true (different tuple) k passes.1)
      (λ x g. in_order-has nat_cmp nat_cmp_total nat_cmp-Equal x (values_of s) (subst (Has x) (sym (values_of_zip (below n) v.0 beside)) (v.1.values x g))) in
      subst (λ qs. Has (zip qs tuple) (images (agreed k) (complex_of (input_facets n choice)))) (processes-zip-same (below n) v.0 beside)
      (images-has (agreed k) (complex_of (input_facets n choice)) s tuple here agrees)

  wholes-nonempty : (s : Simplex) → Has s (wholes n k choice) → (is_nonempty s ≡ true) × (length s ≡ n)
  wholes-nonempty s h =
      let t = has-map (zip (below n)) s (agreeing k (input_values n choice) n) h in
      let list = has-lists_of t.0 (input_values n choice) n (has-filter (λ u. nat_le (different u) k) t.0 (lists_of (input_values n choice) n) t.1).0 in
      let long : length (zip (below n) t.0) ≡ n = length-zip-same (below n) t.0 (list.0 ∙ sym (length-below n)) ∙ length-below n in
      (ap is_nonempty (sym t.2) ∙ facet-nonempty n t.0 some list.0, ap length (sym t.2) ∙ long)

  -- the outputs are the complex of all tuples of all input simplices
  pub agreement-outputs : complex_of (images (agreed k) (complex_of (input_facets n choice))) ≡ complex_of (wholes n k choice)
  agreement-outputs =
      complex_of-same (images (agreed k) (complex_of (input_facets n choice))) (wholes n k choice)
      (λ t h. (let i = has-images (agreed k) (complex_of (input_facets n choice)) t h in
      subst (λ u. Has u (complex_of (wholes n k choice))) i.2.same (image-in i.0 i.1 i.2.input i.2.decided)))
      (λ t h. (let tuple = has-map (zip (below n)) t (agreeing k (input_values n choice) n) h in
      facet-in t (images (agreed k) (complex_of (input_facets n choice)))
      (subst (λ u. Has u (images (agreed k) (complex_of (input_facets n choice)))) tuple.2 (whole-in tuple.0 tuple.1)) (wholes-nonempty t h).0))

  pub values-sorted : IsStrictlySortedBy nat_cmp (input_values n choice)
  values-sorted = by choice
    where
      by : (c : Inputs) → IsStrictlySortedBy nat_cmp (input_values n c)
      by own = sorted-below n
      by (all m) = sorted-below m

  wholes-sorted : IsStrictlySortedBy simplex_cmp (wholes n k choice)
  wholes-sorted =
      sorted-zips (below n) (agreeing k (input_values n choice) n)
      (has_each (λ t. length t ≡ length (below n)) (agreeing k (input_values n choice) n)
      (λ t h. (has-lists_of t (input_values n choice) n (has-filter (λ u. nat_le (different u) k) t (lists_of (input_values n choice) n) h).0).0 ∙ sym (length-below n)))
      (IsStrictlySortedBy-filter (slice_cmp nat_cmp) (λ t. nat_le (different t) k) (lists_of (input_values n choice) n) (sorted-lists_of (input_values n choice) n values-sorted))

  -- the facets of the outputs are what all processes decide
  pub agreement-facets : facets (complex_of (wholes n k choice)) ≡ wholes n k choice
  agreement-facets = facets-pure n (wholes n k choice) (complex_of (wholes n k choice)) (record {
    sorted = complex_of-sorted (wholes n k choice);
    sorted_wholes = wholes-sorted;
    some = λ t h. (let f = of_some_facet t (wholes n k choice) h in (has-filter is_nonempty t (parts_of f.0) f.2).1);
    part = λ t h. (let f = of_some_facet t (wholes n k choice) h in (f.0, f.1, (has-filter is_nonempty t (parts_of f.0) f.2).0));
    within = λ f h. facet-in f (wholes n k choice) h (wholes-nonempty f h).0;
    long = λ f h. (wholes-nonempty f h).1;
  })

-- ---- how many

pub length-wholes : (n k : ℕ) (choice : Inputs) → length (wholes n k choice) ≤ length (input_values n choice) ^ n
length-wholes n k choice =
    omega (arith, length-map (agreeing k (input_values n choice) n) (zip (below n)), length_filter (λ t. nat_le (different t) k) (lists_of (input_values n choice) n), length-lists_of (input_values n choice) n)

-- with own inputs there are few
pub few-own : (n : ℕ) → n ≤ 4 → n ^ n ≤ 256
few-own zero h = omega arith
few-own (suc zero) h = omega arith
few-own (suc (suc zero)) h = omega arith
few-own (suc (suc (suc zero))) h = omega arith
few-own (suc (suc (suc (suc zero)))) h = omega arith
few-own (suc (suc (suc (suc (suc n))))) h = absurd (let none : ⊥ = omega (arith, h) in none)

-- each input facet is an input simplex
pub facets-few : (n m : ℕ) → 1 ≤ n → m ^ n ≤ length (complex_of (input_facets n (all m)))
facets-few n m some =
    let lists = lists_of (below m) n in
    let long : AllByRecursion (λ t. length t ≡ length (below n)) lists = has_each (λ t. length t ≡ length (below n)) lists (λ t h. (has-lists_of t (below m) n h).0 ∙ sym (length-below n)) in
    let sorted = sorted-zips (below n) lists long (sorted-lists_of (below m) n (sorted-below m)) in
    let among = length-among simplex_cmp simplex_cmp-total (map (zip (below n)) lists) (complex_of (map (zip (below n)) lists)) sorted
    (λ s h. (let t = has-map (zip (below n)) s lists h in facet-in s (map (zip (below n)) lists) h (ap is_nonempty (sym t.2) ∙ facet-nonempty n t.0 some (has-lists_of t.0 (below m) n t.1).0))) in
    omega (arith, among, length-map lists (zip (below n)), length-lists_of (below m) n, ap (λ w. w ^ n) (length-below m))

pub length-input_facets : (n m : ℕ) → length (input_facets n (all m)) ≡ m ^ n
length-input_facets n m = length-map (lists_of (below m) n) (zip (below n)) ∙ length-lists_of (below m) n ∙ ap (λ w. w ^ n) (length-below m)

-- ---- vertices

-- each process with each value
abbrev vertices : ℕ → ℕ → List Simplex
vertices n m = flat_map (λ p. map (λ x. (p, x) ∷ []) (below m)) (below n)

single_first : (p q x y : ℕ) → nat_cmp p q ≡ Less → simplex_cmp ((p, x) ∷ []) ((q, y) ∷ []) ≡ Less
single_first p q x y h = ap (λ o. ordering_then (ordering_then o (nat_cmp x y)) (slice_cmp vertex_cmp [] [])) h

single_second : (p x y : ℕ) → nat_cmp x y ≡ Less → simplex_cmp ((p, x) ∷ []) ((p, y) ∷ []) ≡ Less
single_second p x y h =
    ap (λ o. ordering_then (ordering_then o (nat_cmp x y)) (slice_cmp vertex_cmp [] [])) (tied_itself nat_cmp_total p)
    ∙ ap (λ o. ordering_then o (slice_cmp vertex_cmp [] [])) h

vertices-sorted : (n m : ℕ) → IsStrictlySortedBy simplex_cmp (vertices n m)
vertices-sorted n m = sorted-pairs nat_cmp nat_cmp simplex_cmp (λ p x. (p, x) ∷ []) single_first single_second (below n) (below m) (sorted-below n) (sorted-below m)

single-in : (n m p x : ℕ) → p < n → x < m → Has ((p, x) ∷ []) (complex_of (input_facets n (all m)))
single-in n m p x inside low =
    let r = repeated x (below n) (p ∷ []) (x ∷ []) (single-part p (below n) (below-has p n inside)) refl in
    let same : (z : ℕ) → Has z r.0 → z ≡ x = λ z h. elim (r.1.old z h) [ inl e ↦ e | inr g ↦ elim g [ inl e ↦ sym e | inr none ↦ absurd none ] ] in
    let list = lists_of-has r.0 (below m) (has_each (λ z. Has z (below m)) r.0 (λ z h. below-has z m (subst (λ w. w < m) (sym (same z h)) low))) in
    is_in_complex ((p, x) ∷ []) (zip (below n) r.0) (input_facets n (all m))
    (map-has (zip (below n)) r.0 (lists_of (below m) n) (subst (λ k. Has r.0 (lists_of (below m) k)) (r.1.long ∙ length-below n) list))
    (part-face (zip (below n) r.0) ((p, x) ∷ []) r.1.part refl)

vertex-low : (n m : ℕ) (w : Vertex) → Has (w ∷ []) (complex_of (input_facets n (all m))) → Has (w ∷ []) (vertices n m)
vertex-low n m w h =
    let f = of_some_facet (w ∷ []) (input_facets n (all m)) h in
    let v = is_facet n (all m) f.0 f.1 in
    let beside : length v.0 ≡ length (below n) = v.1.long ∙ sym (length-below n) in
    let here = vertex_of_part w f.0 (w ∷ []) (has-filter is_nonempty (w ∷ []) (parts_of f.0) f.2).0 (inl refl) in
    let process : Has w.0 (below n) = subst (Has w.0) (ap processes_of (sym v.1.same) ∙ processes-zip-same (below n) v.0 beside) (map-has (λ (u : Vertex). u.0) w f.0 here) in
    let value : Has w.1 (below m) = v.1.values w.1 (subst (Has w.1) (ap values_of (sym v.1.same) ∙ values_of_zip (below n) v.0 beside) (map-has (λ (u : Vertex). u.1) w f.0 here)) in
    flat_map-has (λ p. map (λ x. (p, x) ∷ []) (below m)) (w ∷ []) w.0 (below n) process (map-has (λ (x : ℕ). (w.0, x) ∷ []) w.1 (below m) value)

-- the vertices of the input complex
vertices-are : (n m : ℕ) → filter (λ s. length s == 1) (complex_of (input_facets n (all m))) ≡ vertices n m
vertices-are n m =
    same_in_order simplex_cmp simplex_cmp-total simplex_cmp-Equal (filter (λ s. length s == 1) (complex_of (input_facets n (all m)))) (vertices n m)
    (IsStrictlySortedBy-filter simplex_cmp (λ s. length s == 1) (complex_of (input_facets n (all m))) (complex_of-sorted (input_facets n (all m)))) (vertices-sorted n m)
    (λ t h. (let g = has-filter (λ (s : Simplex). length s == 1) t (complex_of (input_facets n (all m))) h in forth t (eqb-true (length t) 1 g.1) g.0))
    (λ t h. back t h)
  where
    forth : (t : Simplex) → length t ≡ 1 → Has t (complex_of (input_facets n (all m))) → Has t (vertices n m)
    forth [] long h = absurd (let none : ⊥ = omega (arith, long) in none)
    forth (w ∷ []) long h = vertex-low n m w h
    forth (w ∷ u ∷ t) long h = absurd (let none : ⊥ = omega (arith, long) in none)

    back : (t : Simplex) → Has t (vertices n m) → Has t (filter (λ s. length s == 1) (complex_of (input_facets n (all m))))
    back t h =
        let p = has-flat_map (λ p. map (λ x. (p, x) ∷ []) (below m)) t (below n) h in
        let x = has-map (λ (x : ℕ). (p.0, x) ∷ []) t (below m) p.2 in
        filter-has (λ s. length s == 1) t (complex_of (input_facets n (all m)))
        (subst (λ u. Has u (complex_of (input_facets n (all m)))) x.2 (single-in n m p.0 x.0 (has-below p.0 n p.1) (has-below x.0 m x.1)))
        (ap (λ (u : Simplex). length u == 1) (sym x.2))

pub count-vertices : (n m : ℕ) → count_by (λ s. length s == 1) (complex_of (input_facets n (all m))) ≡ n * m
count-vertices n m =
    sym (length-filter (λ (s : Simplex). length s == 1) (complex_of (input_facets n (all m))))
    ∙ ap length (vertices-are n m)
    ∙ length-pieces (λ p. map (λ x. (p, x) ∷ []) (below m)) m (below n) (λ p. length-map (below m) (λ (x : ℕ). (p, x) ∷ []) ∙ length-below m)
    ∙ ap (λ k. k * m) (length-below n)

pub count-vertices-own : (n : ℕ) → 1 ≤ n → n ≤ 4 → count_by (λ s. length s == 1) (complex_of (input_facets n own)) ≡ n
count-vertices-own zero some few = absurd (let none : ⊥ = omega (arith, some) in none)
count-vertices-own (suc zero) some few = refl
count-vertices-own (suc (suc zero)) some few = refl
count-vertices-own (suc (suc (suc zero))) some few = refl
count-vertices-own (suc (suc (suc (suc zero)))) some few = refl
count-vertices-own (suc (suc (suc (suc (suc n))))) some few = absurd (let none : ⊥ = omega (arith, few) in none)
