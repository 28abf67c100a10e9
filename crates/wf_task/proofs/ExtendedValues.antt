-- Values for some of the processes, extended to all of them; and simplices on
-- the same processes in order.
use Rattle.std.proofs.Common.{◌≡◌, ℕ, suc, ◌+◌, ◌<◌, ◌≤◌, List, [], ◌∷◌, ◌++◌, length, map, zip, inl, inr, ◌⊎◌, refl, sym, ap, ◌∙◌, subst, arith, length-append}
use Rattle.std.specs.List.{AllByRecursion}
use Rattle.std.specs.List.Sorted.{IsStrictlySortedBy}
use Rattle.std.specs.declared.cmp.Ordering.TheVariants.{Less}
use Rattle.std.specs.Ordering.{nat_cmp, ordering_then}
use Rattle.std.specs.Cmp.{nat_cmp_total, tied_itself}
use Rattle.std.specs.Cmp.Lexicographic.{slice_cmp}
use Rattle.wf_model.specs.Lists.{below}
use Rattle.wf_model.specs.Simplex.{Simplex, processes_of, parts_of, vertex_cmp, simplex_cmp}
use Rattle.wf_simplex.proofs.Lemmas.{Has, has-append, has-append_left, has-append_right, begins, map-has}
use Rattle.std.proofs.lemmas.List.FromFn.{length-range_with_len}
use Rattle.wf_task.proofs.Listings.{has-below, sorted-below, length-among}
use Rattle.wf_task.proofs.DifferentNumbers.{Differ, has_or_not}
use Rattle.wf_task.proofs.Facets.{length-part}

-- ---- beside one another

pub length-zip-same : (qs xs : List ℕ) → length xs ≡ length qs → length (zip qs xs) ≡ length qs
length-zip-same [] [] h = refl
length-zip-same [] (x ∷ xs) h = refl
length-zip-same (q ∷ qs) [] h = absurd (let none : ⊥ = omega (arith, h) in none)
length-zip-same (q ∷ qs) (x ∷ xs) h = ap suc (length-zip-same qs xs (omega (arith, h)))

pub processes-zip-same : (qs xs : List ℕ) → length xs ≡ length qs → processes_of (zip qs xs) ≡ qs
processes-zip-same [] xs h = refl
processes-zip-same (q ∷ qs) [] h = absurd (let none : ⊥ = omega (arith, h) in none)
processes-zip-same (q ∷ qs) (x ∷ xs) h = ap (λ rest. q ∷ rest) (processes-zip-same qs xs (omega (arith, h)))

zip_cmp : (qs t u : List ℕ) → length t ≡ length qs → length u ≡ length qs → slice_cmp vertex_cmp (zip qs t) (zip qs u) ≡ slice_cmp nat_cmp t u
zip_cmp [] [] [] h k = refl
zip_cmp [] [] (y ∷ u) h k = absurd (let none : ⊥ = omega (arith, k) in none)
zip_cmp [] (x ∷ t) u h k = absurd (let none : ⊥ = omega (arith, h) in none)
zip_cmp (q ∷ qs) [] u h k = absurd (let none : ⊥ = omega (arith, h) in none)
zip_cmp (q ∷ qs) (x ∷ t) [] h k = absurd (let none : ⊥ = omega (arith, k) in none)
zip_cmp (q ∷ qs) (x ∷ t) (y ∷ u) h k =
    let first : vertex_cmp (q, x) (q, y) ≡ nat_cmp x y = ap (λ o. ordering_then o (nat_cmp x y)) (tied_itself nat_cmp_total q) in
    let rest = zip_cmp qs t u (omega (arith, h)) (omega (arith, k)) in
    λ j. ordering_then (first j) (rest j)

pub zip-below : (qs t u : List ℕ) → length t ≡ length qs → length u ≡ length qs → slice_cmp nat_cmp t u ≡ Less → simplex_cmp (zip qs t) (zip qs u) ≡ Less
zip-below qs t u h k l =
    let long : length (zip qs t) ≡ length (zip qs u) = length-zip-same qs t h ∙ sym (length-zip-same qs u k) in
    ap (λ n. ordering_then (nat_cmp n (length (zip qs u))) (slice_cmp vertex_cmp (zip qs t) (zip qs u))) long
    ∙ ap (λ o. ordering_then o (slice_cmp vertex_cmp (zip qs t) (zip qs u))) (tied_itself nat_cmp_total (length (zip qs u)))
    ∙ zip_cmp qs t u h k ∙ l

-- value lists in order beside the same processes are simplices in order
pub sorted-zips : (qs : List ℕ) (ts : List (List ℕ)) → AllByRecursion (λ t. length t ≡ length qs) ts → IsStrictlySortedBy (slice_cmp nat_cmp) ts → IsStrictlySortedBy simplex_cmp (map (zip qs) ts)
unfolding IsStrictlySortedBy
sorted-zips qs [] h g = tt
sorted-zips qs (t ∷ ts) h g = (first ts h.1 g.0, sorted-zips qs ts h.1 g.1)
  where
    first : (us : List (List ℕ)) → AllByRecursion (λ u. length u ≡ length qs) us → AllByRecursion (λ u. slice_cmp nat_cmp t u ≡ Less) us → AllByRecursion (λ s. simplex_cmp (zip qs t) s ≡ Less) (map (zip qs) us)
    first [] long less = tt
    first (u ∷ us) long less = (zip-below qs t u h.0 long.0 less.0, first us long.1 less.1)

-- ---- parts

pub map-part : {X Y : Type 0} (f : X → Y) (s t : List X) → Has t (parts_of s) → Has (map f t) (parts_of (map f s))
map-part {Y = Y} f [] t (inl e) = subst (λ u. Has (map f u) (parts_of (map f []))) e (inl refl)
map-part f [] t (inr none) = absurd none
map-part {X} {Y} f (x ∷ s) t h =
    elim (has-append t (map (λ rest. x ∷ rest) (parts_of s)) (parts_of s) h) [
      | inl here ↦ (let b = begins x t (parts_of s) here in
          subst (λ (u : List X). Has (map f u) (parts_of (map f (x ∷ s)))) b.1
          (has-append_left (f x ∷ map f b.0) (map (λ (rest : List Y). f x ∷ rest) (parts_of (map f s))) (parts_of (map f s)) (map-has (λ (rest : List Y). f x ∷ rest) (map f b.0) (parts_of (map f s)) (map-part f s b.0 b.2))))
      | inr here ↦ has-append_right (map f t) (map (λ (rest : List Y). f x ∷ rest) (parts_of (map f s))) (parts_of (map f s)) (map-part f s t here)
    ]

pub with_first : {X : Type 0} (x : X) (s t : List X) → Has t (parts_of s) → Has (x ∷ t) (parts_of (x ∷ s))
with_first {X} x s t h = has-append_left (x ∷ t) (map (λ (rest : List X). x ∷ rest) (parts_of s)) (parts_of s) (map-has (λ (rest : List X). x ∷ rest) t (parts_of s) h)

pub without_first : {X : Type 0} (x : X) (s t : List X) → Has t (parts_of s) → Has t (parts_of (x ∷ s))
without_first {X} x s t h = has-append_right t (map (λ (rest : List X). x ∷ rest) (parts_of s)) (parts_of s) h

pub no_part : {X : Type 0} (s : List X) → Has [] (parts_of s)
no_part [] = inl refl
no_part (x ∷ s) = without_first x s [] (no_part s)

pub single-part : {X : Type 0} (x : X) (s : List X) → Has x s → Has (x ∷ []) (parts_of s)
single-part x [] h = absurd h
single-part {X} x (y ∷ s) (inl e) = subst (λ (z : X). Has (z ∷ []) (parts_of (y ∷ s))) e (with_first y s [] (no_part s))
single-part x (y ∷ s) (inr h) = without_first y s (x ∷ []) (single-part x s h)

-- ---- values for all processes

-- each further value is x
pub record Repeats (x : ℕ) (qs ps tuple full : List ℕ) : Type 0 where
  pub long : length full ≡ length qs
  pub part : Has (zip ps tuple) (parts_of (zip qs full))
  pub old : (z : ℕ) → Has z full → (z ≡ x) ⊎ Has z tuple

pub repeated : (x : ℕ) (qs ps tuple : List ℕ) → Has ps (parts_of qs) → length tuple ≡ length ps → (full : List ℕ) × Repeats x qs ps tuple full
repeated x [] ps tuple (inl e) long = (
  [],
  record {
    long = refl;
    part = subst (λ us. Has (zip us tuple) (parts_of (zip [] []))) e (inl refl);
    old = λ z h. absurd h;
  },
)
repeated x [] ps tuple (inr none) long = absurd none
repeated x (q ∷ qs) ps tuple h long =
    elim (has-append ps (map (λ (rest : List ℕ). q ∷ rest) (parts_of qs)) (parts_of qs) h) [
      | inl here ↦ (let b = begins q ps (parts_of qs) here in
          subst (λ us. (full : List ℕ) × Repeats x (q ∷ qs) us tuple full) b.1 (first b.0 tuple (λ rest l. repeated x qs b.0 rest b.2 l) (long ∙ ap length (sym b.1))))
      | inr here ↦ (let r = repeated x qs ps tuple here long in (
        x ∷ r.0,
        record {
          long = ap suc r.1.long;
          part = without_first (q, x) (zip qs r.0) (zip ps tuple) r.1.part;
          old = λ z g. further r.0 r.1.old z g;
        },
      ))
    ]
  where
    first : (ps tuple : List ℕ) → ((rest : List ℕ) → length rest ≡ length ps → (full : List ℕ) × Repeats x qs ps rest full) → length tuple ≡ length (q ∷ ps) → (full : List ℕ) × Repeats x (q ∷ qs) (q ∷ ps) tuple full
    first ps [] deeper long = absurd (let none : ⊥ = omega (arith, long) in none)
    first ps (a ∷ tuple) deeper long =
        let r = deeper tuple (let e : length tuple ≡ length ps = omega (arith, long) in e) in (
          a ∷ r.0,
          record {
            long = ap suc r.1.long;
            part = with_first (q, a) (zip qs r.0) (zip ps tuple) r.1.part;
            old = λ z g. known r.0 r.1.old z g;
          },
        )
      where
        known : (full : List ℕ) → ((z : ℕ) → Has z full → (z ≡ x) ⊎ Has z tuple) → (z : ℕ) → Has z (a ∷ full) → (z ≡ x) ⊎ Has z (a ∷ tuple)
        known full old z (inl e) = inr (inl e)
        known full old z (inr g) = elim (old z g) [ inl e ↦ inl e | inr k ↦ inr (inr k) ]

    further : (full : List ℕ) → ((z : ℕ) → Has z full → (z ≡ x) ⊎ Has z tuple) → (z : ℕ) → Has z (x ∷ full) → (z ≡ x) ⊎ Has z tuple
    further full old z (inl e) = inl (sym e)
    further full old z (inr g) = old z g

-- ---- different values for all processes

some_or_all : (xs avoid : List ℕ) → ((x : ℕ) × Has x xs × (Has x avoid → ⊥)) ⊎ ((z : ℕ) → Has z xs → Has z avoid)
some_or_all [] avoid = inr (λ z h. absurd h)
some_or_all (x ∷ xs) avoid = by (has_or_not x avoid) (some_or_all xs avoid)
  where
    all_of : Has x avoid → ((z : ℕ) → Has z xs → Has z avoid) → (z : ℕ) → Has z (x ∷ xs) → Has z avoid
    all_of here rest z (inl e) = subst (λ w. Has w avoid) e here
    all_of here rest z (inr h) = rest z h

    by : Has x avoid ⊎ (Has x avoid → ⊥) → ((y : ℕ) × Has y xs × (Has y avoid → ⊥)) ⊎ ((z : ℕ) → Has z xs → Has z avoid) → ((y : ℕ) × Has y (x ∷ xs) × (Has y avoid → ⊥)) ⊎ ((z : ℕ) → Has z (x ∷ xs) → Has z avoid)
    by (inr new) rest = inl (x, inl refl, new)
    by (inl old) (inl y) = inl (y.0, inr y.1, y.2)
    by (inl old) (inr rest) = inr (all_of old rest)

-- more names than are to be avoided
fresh : (m : ℕ) (avoid : List ℕ) → length avoid < m → (x : ℕ) × (x < m) × (Has x avoid → ⊥)
fresh m avoid h =
    elim (some_or_all (below m) avoid) [
      | inl x ↦ (x.0, has-below x.0 m x.1, x.2)
      | inr all ↦ absurd (let none : ⊥ = omega (arith, h, length-among nat_cmp nat_cmp_total (below m) avoid (sorted-below m) all, length-range_with_len 0 m) in none)
    ]

-- names below m, all different and none of those used
pub record Names (m : ℕ) (used qs ps tuple full : List ℕ) : Type 0 where
  pub long : length full ≡ length qs
  pub part : Has (zip ps tuple) (parts_of (zip qs full))
  pub differ : Differ full
  pub low : (z : ℕ) → Has z full → z < m
  pub new : (z : ℕ) → Has z full → Has z used → ⊥

-- a tuple that such names extend
pub record IsNamed (m : ℕ) (used tuple : List ℕ) : Type 0 where
  pub differ : Differ tuple
  pub low : (z : ℕ) → Has z tuple → z < m
  pub new : (z : ℕ) → Has z tuple → Has z used → ⊥

named_with : (m q a : ℕ) (used qs ps tuple full : List ℕ) → a < m → (Has a used → ⊥) → Names m (a ∷ used) qs ps tuple full → Names m used (q ∷ qs) (q ∷ ps) (a ∷ tuple) (a ∷ full)
named_with m q a used qs ps tuple full low new h = record {
  long = ap suc h.long;
  part = with_first (q, a) (zip qs full) (zip ps tuple) h.part;
  differ = (λ here. h.new a here (inl refl), h.differ);
  low = λ z g. is_low z g;
  new = λ z g u. is_new z g u;
}
  where
    is_low : (z : ℕ) → Has z (a ∷ full) → z < m
    is_low z (inl e) = subst (λ w. w < m) e low
    is_low z (inr g) = h.low z g

    is_new : (z : ℕ) → Has z (a ∷ full) → Has z used → ⊥
    is_new z (inl e) u = new (subst (λ w. Has w used) (sym e) u)
    is_new z (inr g) u = h.new z g (inr u)

named_without : (m q a : ℕ) (used qs ps tuple full : List ℕ) → a < m → (Has a used → ⊥) → Names m (a ∷ used) qs ps tuple full → Names m used (q ∷ qs) ps tuple (a ∷ full)
named_without m q a used qs ps tuple full low new h =
    let g = named_with m q a used qs ps tuple full low new h in
    record { long = g.long; part = without_first (q, a) (zip qs full) (zip ps tuple) h.part; differ = g.differ; low = g.low; new = g.new }

pub named : (m : ℕ) (used qs ps tuple : List ℕ) → Has ps (parts_of qs) → length tuple ≡ length ps → IsNamed m used tuple → length used + length qs ≤ m → (full : List ℕ) × Names m used qs ps tuple full
named m used [] ps tuple (inl e) long h room = (
  [],
  record {
    long = refl;
    part = subst (λ us. Has (zip us tuple) (parts_of (zip [] []))) e (inl refl);
    differ = tt;
    low = λ z g. absurd g;
    new = λ z g. absurd g;
  },
)
named m used [] ps tuple (inr none) long h room = absurd none
named m used (q ∷ qs) ps tuple here long h room =
    elim (has-append ps (map (λ (rest : List ℕ). q ∷ rest) (parts_of qs)) (parts_of qs) here) [
      | inl taken ↦ (let b = begins q ps (parts_of qs) taken in
          subst (λ us. (full : List ℕ) × Names m used (q ∷ qs) us tuple full) b.1
          (first b.0 tuple (λ a rest l k. named m (a ∷ used) qs b.0 rest b.2 l k (let r : length (a ∷ used) + length qs ≤ m = omega (arith, room) in r)) (long ∙ ap length (sym b.1)) h))
      | inr left ↦ (let few = length-part qs ps left in
          let x = fresh m (used ++ tuple) (let r : length (used ++ tuple) < m = omega (arith, room, few, long, length-append used tuple) in r) in
          let r = named m (x.0 ∷ used) qs ps tuple left long (apart x.0 (λ g. x.2 (has-append_right x.0 used tuple g))) (let r : length (x.0 ∷ used) + length qs ≤ m = omega (arith, room) in r) in
          (x.0 ∷ r.0, named_without m q x.0 used qs ps tuple r.0 x.1 (λ g. x.2 (has-append_left x.0 used tuple g)) r.1))
    ]
  where
    apart : (x : ℕ) → (Has x tuple → ⊥) → IsNamed m (x ∷ used) tuple
    apart x other = record { differ = h.differ; low = h.low; new = λ z g u. neither z g u }
      where
        neither : (z : ℕ) → Has z tuple → Has z (x ∷ used) → ⊥
        neither z g (inl e) = other (subst (λ w. Has w tuple) (sym e) g)
        neither z g (inr u) = h.new z g u

    first : (ps tuple : List ℕ) → ((a : ℕ) (rest : List ℕ) → length rest ≡ length ps → IsNamed m (a ∷ used) rest → (full : List ℕ) × Names m (a ∷ used) qs ps rest full) → length tuple ≡ length (q ∷ ps) → IsNamed m used tuple
        → (full : List ℕ) × Names m used (q ∷ qs) (q ∷ ps) tuple full
    first ps [] deeper long k = absurd (let none : ⊥ = omega (arith, long) in none)
    first ps (a ∷ rest) deeper long k =
        let r = deeper a rest (let e : length rest ≡ length ps = omega (arith, long) in e) (record { differ = k.differ.1; low = λ z g. k.low z (inr g); new = λ z g u. later z g u }) in
        (a ∷ r.0, named_with m q a used qs ps rest r.0 (k.low a (inl refl)) (λ u. k.new a (inl refl) u) r.1)
      where
        later : (z : ℕ) → Has z rest → Has z (a ∷ used) → ⊥
        later z g (inl e) = k.differ.0 (subst (λ w. Has w rest) (sym e) g)
        later z g (inr u) = k.new z (inr g) u

-- ---- parts of values beside processes

-- a part of values beside processes is a part of the values beside a part of the processes
pub record IsPair (qs xs : List ℕ) (t : Simplex) (ps ys : List ℕ) : Type 0 where
  pub processes : Has ps (parts_of qs)
  pub values : Has ys (parts_of xs)
  pub long : length ys ≡ length ps
  pub same : zip ps ys ≡ t

pub unzipped : (qs xs : List ℕ) (t : Simplex) → length xs ≡ length qs → Has t (parts_of (zip qs xs)) → (ps : List ℕ) × (ys : List ℕ) × IsPair qs xs t ps ys
unzipped [] [] t long (inl e) = ([], [], record { processes = inl refl; values = inl refl; long = refl; same = e })
unzipped [] [] t long (inr none) = absurd none
unzipped [] (x ∷ xs) t long h = absurd (let none : ⊥ = omega (arith, long) in none)
unzipped (q ∷ qs) [] t long h = absurd (let none : ⊥ = omega (arith, long) in none)
unzipped (q ∷ qs) (x ∷ xs) t long h =
    elim (has-append t (map (λ (rest : Simplex). (q, x) ∷ rest) (parts_of (zip qs xs))) (parts_of (zip qs xs)) h) [
      | inl here ↦ (let b = begins (q, x) t (parts_of (zip qs xs)) here in
          let r = unzipped qs xs b.0 (let e : length xs ≡ length qs = omega (arith, long) in e) b.2 in (
            q ∷ r.0,
            x ∷ r.1,
            record {
              processes = with_first q qs r.0 r.2.processes;
              values = with_first x xs r.1 r.2.values;
              long = ap suc r.2.long;
              same = ap (λ (u : Simplex). (q, x) ∷ u) r.2.same ∙ b.1;
            },
          ))
      | inr here ↦ (let r = unzipped qs xs t (let e : length xs ≡ length qs = omega (arith, long) in e) here in (
        r.0,
        r.1,
        record {
          processes = without_first q qs r.0 r.2.processes;
          values = without_first x xs r.1 r.2.values;
          long = r.2.long;
          same = r.2.same;
        },
      ))
    ]
