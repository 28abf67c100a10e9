-- Faces of a simplex, and what they keep of it and of its tuples.
use Rattle.std.proofs.Common.{◌≡◌, ℕ, zero, suc, ◌+◌, ◌==◌, ◌<◌, ◌≤◌, Bool, true, false, List, [], ◌∷◌, ◌++◌, cond, drop, filter, get_or, length, map, take, inl, inr, refl, sym, ap, ◌∙◌, subst, arith, append_assoc, append-nil}
use Rattle.std.specs.List.{AllByRecursion, list_all, list_any}
use Rattle.std.specs.List.Sorted.{IsStrictlySortedBy}
use Rattle.std.specs.declared.cmp.Ordering.{Ordering}
use Rattle.std.specs.declared.cmp.Ordering.TheVariants.{Less, Equal, Greater}
use Rattle.std.specs.Ordering.{nat_cmp, ordering_then}
use Rattle.std.specs.Cmp.{both_ways, nat_cmp_is}
use Rattle.std.proofs.Math.ListN.{set}
use Rattle.std.proofs.lemmas.Bool.{and_parts, and_from, eq-eqb, eqb-true}
use Rattle.std.proofs.lemmas.List.{drop_more, take_more_set}
use Rattle.std.proofs.lemmas.List.Kept.{IsStrictlySortedBy-filter}
use Rattle.wf_model.specs.Simplex.{Simplex, Vertex, is_face, is_nonempty, same_vertex, vertex_cmp}
use Rattle.wf_model.specs.Task.{IsTaskSimplex, Tuple}
use Rattle.wf_simplex.proofs.BoundedFaces.{Climbs}
use Rattle.wf_simplex.proofs.Lemmas.{climbs, Has, filter-has, has-filter, same_in_order}
use Rattle.wf_simplex.specs.Order.{nat_cmp-Equal, same_simplex-decides, vertex_cmp-total}
use Rattle.wf_tree_model.specs.Counting.Signs.{keep}
use Rattle.wf_tree_model.specs.Tuples.{is_part, mask_of}
use Rattle.wf_tree_model.proofs.Lemmas.{any_has, from_each, has_any, passes_each}

-- ---- simplices in order

later : (n largest m : ℕ) (v : Vertex) (s : Simplex) → v.0 < m → Climbs n largest m s → AllByRecursion (λ w. vertex_cmp v w ≡ Less) s
unfolding Climbs
later n largest m v [] low h = tt
later n largest m v (w ∷ s) low h =
    let less : v.0 < w.0 = omega (arith, low, h.0) in
    (ap (λ o. ordering_then o (nat_cmp v.1 w.1)) (sym (nat_cmp_is v.0 w.0 Less less)), later n largest (w.0 + 1) v s (omega (arith, less)) h.3)

climbs_sorted : (n largest m : ℕ) (s : Simplex) → Climbs n largest m s → IsStrictlySortedBy vertex_cmp s
unfolding Climbs IsStrictlySortedBy
climbs_sorted n largest m [] h = tt
climbs_sorted n largest m (v ∷ s) h = (later n largest (v.0 + 1) v s (omega arith) h.3, climbs_sorted n largest (v.0 + 1) s h.3)

simplex_sorted : (s : Simplex) → IsTaskSimplex s → IsStrictlySortedBy vertex_cmp s
simplex_sorted s h = climbs_sorted _ _ 0 s (climbs _ _ s h)

both_equal : (r o : Ordering) → ordering_then r o ≡ Equal → (r ≡ Equal) × (o ≡ Equal)
both_equal Less o h = absurd (let e : Less ≡ Equal = h in cc)
both_equal Equal o h = (refl, h)
both_equal Greater o h = absurd (let e : Greater ≡ Equal = h in cc)

vertex_exact : (v w : Vertex) → vertex_cmp v w ≡ Equal → v ≡ w
vertex_exact v w h =
    let both = both_equal (nat_cmp v.0 w.0) (nat_cmp v.1 w.1) h in
    let p = nat_cmp-Equal v.0 w.0 both.0 in
    let x = nat_cmp-Equal v.1 w.1 both.1 in
    λ i. (p i, x i)

-- ---- faces are parts

all_has : {X : Type 0} (p : X → Bool) (x : X) (xs : List X) → list_all p xs ≡ true → Has x xs → p x ≡ true
all_has p x [] h here = absurd here
all_has p x (y ∷ ys) h (inl e) = ap p (sym e) ∙ (and_parts (p y) (list_all p ys) h).0
all_has p x (y ∷ ys) h (inr later) = all_has p x ys (and_parts (p y) (list_all p ys) h).1 later

keep_filter : {X : Type 0} (p : X → Bool) (xs : List X) → keep (map p xs) xs ≡ filter p xs
keep_filter p [] = refl
keep_filter p (x ∷ xs) = by (keep_filter p xs) (p x)
  where
    by : keep (map p xs) xs ≡ filter p xs → (b : Bool) → keep (b ∷ map p xs) (x ∷ xs) ≡ cond b (x ∷ filter p xs) (filter p xs)
    by rest true = ap (λ ys. x ∷ ys) rest
    by rest false = rest

one_vertex : (v w : Vertex) → same_vertex v w ≡ true → v ≡ w
one_vertex v w h =
    let both = and_parts (v.0 == w.0) (v.1 == w.1) h in
    let p = eqb-true v.0 w.0 both.0 in
    let x = eqb-true v.1 w.1 both.1 in
    λ i. (p i, x i)

has_same : (v : Vertex) (s : Simplex) → list_any (same_vertex v) s ≡ true → Has v s
has_same v s h = let r = has_any (same_vertex v) s h in subst (λ w. Has w s) (sym (one_vertex v r.0 r.2)) r.1

same_has : (v : Vertex) (s : Simplex) → Has v s → list_any (same_vertex v) s ≡ true
same_has v s h = any_has (same_vertex v) v s h (and_from (v.0 == v.0) (v.1 == v.1) (eq-eqb v.0 v.0 refl) (eq-eqb v.1 v.1 refl))

pub kept_face : (q s : Simplex) → IsTaskSimplex q → IsTaskSimplex s → is_face q s ≡ true → keep (mask_of q s) s ≡ q
kept_face q s hq hs face =
    let inside = (and_parts (is_nonempty q) (list_all (λ v. list_any (same_vertex v) s) q) face).1 in
    let f = λ (v : Vertex). list_any (same_vertex v) q in
    keep_filter f s
    ∙ same_in_order vertex_cmp vertex_cmp-total vertex_exact (filter f s) q (IsStrictlySortedBy-filter vertex_cmp f s (simplex_sorted s hs)) (simplex_sorted q hq)
    (λ v h. has_same v q (has-filter f v s h).1)
    (λ v h. filter-has f v s (has_same v s (all_has (λ w. list_any (same_vertex w) s) v q inside h)) (same_has v q h))

pub part_face : (q s : Simplex) → IsTaskSimplex q → IsTaskSimplex s → 1 ≤ length q → is_face q s ≡ is_part q s
part_face q s hq hs some = both_ways (is_face q s) (is_part q s)
    (λ h. (same_simplex-decides (keep (mask_of q s) s) q).1 (kept_face q s hq hs h))
    (λ h.
    let f = λ (v : Vertex). list_any (same_vertex v) q in
    let e = sym (keep_filter f s) ∙ (same_simplex-decides (keep (mask_of q s) s) q).0 h in
    and_from (is_nonempty q) (list_all (λ v. list_any (same_vertex v) s) q) (nonempty q some)
    (passes_each (λ v. list_any (same_vertex v) s) q (from_each (λ v. list_any (same_vertex v) s ≡ true) q (λ v here. same_has v s (has-filter f v s (subst (Has v) (sym e) here)).0))))
  where
    nonempty : (xs : Simplex) → 1 ≤ length xs → is_nonempty xs ≡ true
    nonempty [] h = absurd (let bad : ⊥ = omega (arith, h) in bad)
    nonempty (x ∷ xs) h = refl

-- ---- what is kept of lists of one length

pub keep_long : {X Y : Type 0} (mask : List Bool) (xs : List X) (ys : List Y) → length xs ≡ length ys → length (keep mask xs) ≡ length (keep mask ys)
keep_long [] xs ys e = e
keep_long (b ∷ mask) [] [] e = refl
keep_long (b ∷ mask) [] (y ∷ ys) e = absurd (let bad : ⊥ = omega (arith, e) in bad)
keep_long (b ∷ mask) (x ∷ xs) [] e = absurd (let bad : ⊥ = omega (arith, e) in bad)
keep_long (true ∷ mask) (x ∷ xs) (y ∷ ys) e = ap suc (keep_long mask xs ys (omega (arith, e)))
keep_long (false ∷ mask) (x ∷ xs) (y ∷ ys) e = keep_long mask xs ys (omega (arith, e))

-- ---- one place more

pub place_kept : (mask : List Bool) (row : Tuple) (i : ℕ) (values new : List ℕ) (size : ℕ) (whole : Tuple) → i < length mask → length mask ≡ length row → size < length values → get_or mask i false ≡ true → new ≡ set values size (get_or row i 0)
    → take size values ++ keep (drop i mask) (drop i row) ≡ whole → take (size + 1) new ++ keep (drop (i + 1) mask) (drop (i + 1) row) ≡ whole
place_kept mask row i values new size whole low long room is made so_far =
    let rest = keep (drop (i + 1) mask) (drop (i + 1) row) in
    let x = get_or row i 0 in
    let parts : keep (drop i mask) (drop i row) ≡ x ∷ rest =
    ap (λ m. keep m (drop i row)) (drop_more mask i false low) ∙ ap (λ xs. keep (get_or mask i false ∷ drop (i + 1) mask) xs) (drop_more row i 0 (omega (arith, low, long))) ∙ ap (λ b. keep (b ∷ drop (i + 1) mask) (x ∷ drop (i + 1) row)) is in
    ap (λ xs. take (size + 1) xs ++ rest) made ∙ ap (λ xs. xs ++ rest) (take_more_set values size x room) ∙ append_assoc (take size values) (x ∷ []) rest ∙ ap (λ xs. take size values ++ xs) (sym parts) ∙ so_far

pub place_left : (mask : List Bool) (row : Tuple) (i : ℕ) (first whole : Tuple) → i < length mask → length mask ≡ length row → get_or mask i false ≡ false
    → first ++ keep (drop i mask) (drop i row) ≡ whole → first ++ keep (drop (i + 1) mask) (drop (i + 1) row) ≡ whole
place_left mask row i first whole low long is so_far =
    let parts : keep (drop i mask) (drop i row) ≡ keep (drop (i + 1) mask) (drop (i + 1) row) =
    ap (λ m. keep m (drop i row)) (drop_more mask i false low) ∙ ap (λ xs. keep (get_or mask i false ∷ drop (i + 1) mask) xs) (drop_more row i 0 (omega (arith, low, long))) ∙ ap (λ b. keep (b ∷ drop (i + 1) mask) (get_or row i 0 ∷ drop (i + 1) row)) is in
    ap (λ xs. first ++ xs) (sym parts) ∙ so_far

pub all_kept : (mask : List Bool) (row : Tuple) (i : ℕ) (first whole : Tuple) → length mask ≤ i → length mask ≡ length row → first ++ keep (drop i mask) (drop i row) ≡ whole → first ≡ whole
all_kept mask row i first whole past long so_far =
    sym (append-nil first) ∙ ap (λ xs. first ++ xs) (sym (ap (λ m. keep m (drop i row)) (drop_past mask i past) ∙ drop_past row i (omega (arith, past, long)))) ∙ so_far
  where
    drop_past : {X : Type 0} (xs : List X) (k : ℕ) → length xs ≤ k → drop k xs ≡ []
    drop_past [] zero h = refl
    drop_past [] (suc k) h = refl
    drop_past (x ∷ xs) zero h = absurd (let bad : ⊥ = omega (arith, h) in bad)
    drop_past (x ∷ xs) (suc k) h = drop_past xs k (omega (arith, h))
