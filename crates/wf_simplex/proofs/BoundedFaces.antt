-- The faces of a simplex within some bounds are within them.
use Rattle.std.proofs.Common.{◌≡◌, ℕ, ◌+◌, ◌<◌, ◌≤◌, true, nat_lt, List, [], ◌∷◌, ◌++◌, length, map, All, inl, inr, refl, subst, arith, ltb-true, lt-ltb, None}
use Rattle.std.specs.List.{AllByRecursion, list_all}
use Rattle.std.proofs.lemmas.List.Elements.{All-nil, All-cons, All-head, All-tail, All-from_recursion}
use Rattle.wf_model.specs.Simplex.{Simplex, processes_of, values_of, is_ascending, is_nonempty, parts_of, faces_of, complex_of}
use Rattle.wf_model.specs.Task.{IsSimplexWithin}
use Rattle.wf_simplex.proofs.Orders.{Has, has-append}
use Rattle.wf_simplex.proofs.Faces.{has-filter, of_some_facet, begins}
use Rattle.wf_simplex.specs.Reading.{read_fault}
use Rattle.std.proofs.lemmas.Bool.{and_from, and_parts}
use Rattle.wf_simplex.proofs.Reading.{no_fault}

-- processes from m on, below n and ascending, with values of at most the largest
unfoldable pub Climbs : ℕ → ℕ → ℕ → Simplex → Type 0
Climbs n largest m [] = Unit {0}
Climbs n largest m (v ∷ s) = (m ≤ v.0) × (v.0 < n) × (v.1 ≤ largest) × Climbs n largest (v.0 + 1) s

pub climbs_lower : (n largest m k : ℕ) (s : Simplex) → k ≤ m → Climbs n largest m s → Climbs n largest k s
unfolding Climbs
climbs_lower n largest m k [] low h = tt
climbs_lower n largest m k (v ∷ s) low h = let first : k ≤ v.0 = omega (arith, h.0, low) in (first, h.1, h.2, h.3)

pub climbs_wider : (n largest m k : ℕ) (s : Simplex) → n ≤ k → Climbs n largest m s → Climbs k largest m s
unfolding Climbs
climbs_wider n largest m k [] high h = tt
climbs_wider n largest m k (v ∷ s) high h = let low : v.0 < k = omega (arith, h.1, high) in (h.0, low, h.2, climbs_wider n largest (v.0 + 1) k s high h.3)

-- with one more vertex, of the next process
pub climbs_joined : (p x largest m : ℕ) (s : Simplex) → m ≤ p → x ≤ largest → Climbs p largest m s → Climbs (p + 1) largest m (s ++ ((p, x) ∷ []))
unfolding Climbs
climbs_joined p x largest m [] from small h = let low : p < p + 1 = omega arith in (from, low, small, tt)
climbs_joined p x largest m (v ∷ s) from small h =
    let low : v.0 < p + 1 = omega (arith, h.1) in
    (h.0, low, h.2, climbs_joined p x largest (v.0 + 1) s (omega (arith, h.1)) small h.3)

climbs_part : (n largest m : ℕ) (s t : Simplex) → Climbs n largest m s → Has t (parts_of s) → Climbs n largest m t
unfolding Climbs
climbs_part n largest m [] t h (inl e) = subst (Climbs n largest m) e tt
climbs_part n largest m [] t h (inr none) = absurd none
climbs_part n largest m (v ∷ s) t h here =
    elim (has-append t (map (λ rest. v ∷ rest) (parts_of s)) (parts_of s) here) [
      | inl with ↦ (let b = begins v t (parts_of s) with in
          subst (Climbs n largest m) b.1 (h.0, h.1, h.2, climbs_part n largest (v.0 + 1) s b.0 h.3 b.2))
      | inr without ↦ climbs_lower n largest (v.0 + 1) m t (omega (arith, h.0)) (climbs_part n largest (v.0 + 1) s t h.3 without)
    ]

climbs_processes : (n largest m : ℕ) (s : Simplex) → Climbs n largest m s → All (λ p. p < n) (processes_of s)
unfolding Climbs
climbs_processes n largest m [] h = All-nil (λ p. p < n)
climbs_processes n largest m (v ∷ s) h = All-cons (λ p. p < n) v.0 (processes_of s) h.1 (climbs_processes n largest (v.0 + 1) s h.3)

climbs_values : (n largest m : ℕ) (s : Simplex) → Climbs n largest m s → All (λ x. x ≤ largest) (values_of s)
unfolding Climbs
climbs_values n largest m [] h = All-nil (λ x. x ≤ largest)
climbs_values n largest m (v ∷ s) h = All-cons (λ x. x ≤ largest) v.1 (values_of s) h.2 (climbs_values n largest (v.0 + 1) s h.3)

climbs_ascend : (n largest m : ℕ) (s : Simplex) → Climbs n largest m s → is_ascending (processes_of s) ≡ true
unfolding Climbs
climbs_ascend n largest m [] h = refl
climbs_ascend n largest m (v ∷ []) h = refl
climbs_ascend n largest m (v ∷ w ∷ s) h =
    and_from (nat_lt v.0 w.0) (is_ascending (processes_of (w ∷ s))) (lt-ltb v.0 w.0 (omega (arith, h.3.0))) (climbs_ascend n largest (v.0 + 1) (w ∷ s) h.3)

pub climbs_within : (n largest : ℕ) (s : Simplex) → is_nonempty s ≡ true → Climbs n largest 0 s → IsSimplexWithin n largest s
climbs_within n largest s some h = record {
  is_simplex = and_from (is_nonempty s) (is_ascending (processes_of s)) some (climbs_ascend n largest 0 s h);
  processes = climbs_processes n largest 0 s h;
  values = climbs_values n largest 0 s h;
}

above : (m p : ℕ) (ps : List ℕ) → m ≤ p → is_ascending (p ∷ ps) ≡ true → AllByRecursion (λ q. m + 1 ≤ q) ps
above m p [] low h = tt
above m p (q ∷ ps) low h =
    let first : m + 1 ≤ q = omega (arith, ltb-true p q (and_parts (nat_lt p q) (is_ascending (q ∷ ps)) h).0) in
    (first, above m q ps (omega arith) (and_parts (nat_lt p q) (is_ascending (q ∷ ps)) h).1)

climbs_from : (n largest m : ℕ) (s : Simplex) → is_ascending (processes_of s) ≡ true → All (λ p. p < n) (processes_of s) → All (λ x. x ≤ largest) (values_of s) → All (λ p. m ≤ p) (processes_of s) → Climbs n largest m s
unfolding Climbs
climbs_from n largest m [] up below small low = tt
climbs_from n largest m (v ∷ s) up below small low = (
  All-head (λ p. m ≤ p) v.0 (processes_of s) low,
  All-head (λ p. p < n) v.0 (processes_of s) below,
  All-head (λ x. x ≤ largest) v.1 (values_of s) small,
  climbs_from n largest (v.0 + 1) s (rest_ascends v.0 (processes_of s) up) (All-tail (λ p. p < n) v.0 (processes_of s) below) (All-tail (λ x. x ≤ largest) v.1 (values_of s) small) (rest_above v.0 (processes_of s) up),
)
  where
    rest_ascends : (p : ℕ) (ps : List ℕ) → is_ascending (p ∷ ps) ≡ true → is_ascending ps ≡ true
    rest_ascends p [] h = refl
    rest_ascends p (q ∷ ps) h = (and_parts (nat_lt p q) (is_ascending (q ∷ ps)) h).1

    rest_above : (p : ℕ) (ps : List ℕ) → is_ascending (p ∷ ps) ≡ true → All (λ q. p + 1 ≤ q) ps
    rest_above p ps h = All-from_recursion (λ q. p + 1 ≤ q) ps (above p p ps (omega arith) h)

all_from_none : (s : Simplex) → All (λ p. 0 ≤ p) (processes_of s)
all_from_none s = λ k d h. omega arith

pub climbs : (n largest : ℕ) (s : Simplex) → IsSimplexWithin n largest s → Climbs n largest 0 s
climbs n largest s h = climbs_from n largest 0 s (and_parts (is_nonempty s) (is_ascending (processes_of s)) h.is_simplex).1 h.processes h.values (all_from_none s)

-- a face of a simplex within some bounds is within them
pub face_within : (n largest : ℕ) (s t : Simplex) → IsSimplexWithin n largest s → Has t (faces_of s) → IsSimplexWithin n largest t
face_within n largest s t h here =
    let part = has-filter is_nonempty t (parts_of s) here in
    climbs_within n largest t part.1 (climbs_part n largest 0 s t (climbs n largest s h) part.0)

pub all_of_has : {X : Type 0} (P : X → Type 0) (xs : List X) → ((x : X) → Has x xs → P x) → All P xs
all_of_has P [] h = All-nil P
all_of_has P (x ∷ xs) h = All-cons P x xs (h x (inl refl)) (all_of_has P xs (λ y g. h y (inr g)))

pub has_of_all : {X : Type 0} (P : X → Type 0) (x : X) (xs : List X) → All P xs → Has x xs → P x
has_of_all P x [] h g = absurd g
has_of_all P x (y ∷ xs) h (inl e) = subst P e (All-head P y xs h)
has_of_all P x (y ∷ xs) h (inr g) = has_of_all P x xs (All-tail P y xs h) g

-- the complex of facets within some bounds is within them
pub complex_within : (n largest : ℕ) (facets : List Simplex) → All (IsSimplexWithin n largest) facets → All (IsSimplexWithin n largest) (complex_of facets)
complex_within n largest facets h =
    all_of_has (IsSimplexWithin n largest) (complex_of facets)
    (λ t here. (let f = of_some_facet t facets here in face_within n largest f.0 t (has_of_all (IsSimplexWithin n largest) f.0 facets h f.1) f.2))

-- ---- how many vertices, and no fault

climbs_length : (n largest m : ℕ) (s : Simplex) → m ≤ n → Climbs n largest m s → length s + m ≤ n
unfolding Climbs
climbs_length n largest m [] low h = omega arith
climbs_length n largest m (v ∷ s) low h = omega (arith, h.0, climbs_length n largest (v.0 + 1) s (omega (arith, h.1)) h.3)

-- a simplex has at most one vertex for each process
pub length-within : (n largest : ℕ) (s : Simplex) → IsSimplexWithin n largest s → length s ≤ n
length-within n largest s h = omega (arith, climbs_length n largest 0 s (omega arith) (climbs n largest s h))

list_all-below : (n : ℕ) (ps : List ℕ) → All (λ p. p < n) ps → list_all (λ p. nat_lt p n) ps ≡ true
list_all-below n [] h = refl
list_all-below n (p ∷ ps) h = and_from (nat_lt p n) (list_all (λ p. nat_lt p n) ps) (lt-ltb p n (All-head (λ p. p < n) p ps h)) (list_all-below n ps (All-tail (λ p. p < n) p ps h))

-- a simplex is read without a fault
pub read_fault-within : (s : Simplex) → IsSimplexWithin 4 255 s → read_fault s ≡ None
read_fault-within s h =
    no_fault s (and_parts (is_nonempty s) (is_ascending (processes_of s)) h.is_simplex).0
    (and_from (is_ascending (processes_of s)) (list_all (λ p. nat_lt p 4) (processes_of s)) (and_parts (is_nonempty s) (is_ascending (processes_of s)) h.is_simplex).1 (list_all-below 4 (processes_of s) h.processes))
