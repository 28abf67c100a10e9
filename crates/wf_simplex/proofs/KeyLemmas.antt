-- The key of a simplex: what stands in it, and that keys are ordered as simplices are.
use Rattle.std.proofs.Common.{◌≡◌, ℕ, zero, suc, ◌+◌, ◌-◌, ◌*◌, ◌/◌, ◌%◌, ◌<◌, ◌≤◌, ◌==◌, ◌&&◌, Bool, true, false, nat_lt, List, [], ◌∷◌, ◌++◌, length, Option, None, Some, IfSome, slice_index_or, drop, drop_of_length-le, le-ltb, if◌then◌else◌, inl, inr, refl, sym, ap, ap₂, ◌∙◌, subst, arith, ne_eqb, eq-eqb, eqb-true, lt-ltb, length-append}
use Rattle.std.specs.Cmp.{ranked, nat_cmp_is, both_ways}
use Rattle.std.specs.Ordering.{nat_cmp, ordering_then}
use Rattle.std.specs.declared.cmp.Ordering.{Ordering}
use Rattle.std.specs.declared.cmp.Ordering.TheVariants.{Less, Equal, Greater}
use Rattle.std.proofs.lemmas.Bool.{cases_lt}
use Rattle.std.proofs.lemmas.Nat.{div-mul-add, mod-mul-add}
use Rattle.wf_model.specs.Simplex.{Vertex, Simplex, simplex_cmp, is_face}
use Rattle.wf_model.specs.Task.{IsTaskSimplex}
use Rattle.wf_simplex.specs.Entries.{vertices_from, value_at, entries_of, is_within}
use Rattle.wf_simplex.specs.Keys.{digit_of, key_of, one_vertex, key_limit, unit_of, digit_at, entry_of, entries_from, simplex_of, IsKey}
use Rattle.wf_simplex.specs.Order.{same_simplex, same_simplex-decides}
use Rattle.wf_simplex.proofs.Tables.{entry_cmp, ordered_by_entries, value_of_entry, past_end, face_by_entries, nonempty_of_simplex}
use Rattle.wf_simplex.proofs.BoundedFaces.{Climbs, climbs, climbs_lower, length-within}

-- ---- a simplex is its table

-- the values of k processes from n on
table : ℕ → ℕ → Simplex → List (Option ℕ)
table n zero s = []
table n (suc k) s = value_at s n ∷ table (n + 1) k s

not_there : (n largest m : ℕ) (s : Simplex) (p : ℕ) → p < m → Climbs n largest m s → value_at s p ≡ None
unfolding Climbs
not_there n largest m [] p low h = refl
not_there n largest m (v ∷ s) p low h =
    let ne : v.0 == p ≡ false = ne_eqb v.0 p (λ e. omega (arith, h.0, low, e)) in
    rw ne (not_there n largest (v.0 + 1) s p (omega (arith, low, h.0)) h.3)

past_first : (v : Vertex) (s : Simplex) (k n : ℕ) → v.0 < n → table n k (v ∷ s) ≡ table n k s
unfolding table
past_first v s zero n h = refl
past_first v s (suc k) n h =
    let ne : v.0 == n ≡ false = ne_eqb v.0 n (λ e. omega (arith, h, e)) in
    rw ne (ap (λ es. value_at s n ∷ es) (past_first v s k (n + 1) (omega (arith, h))))

tabled : (n largest k m : ℕ) (s : Simplex) → n ≤ m + k → Climbs n largest m s → vertices_from m (table m k s) ≡ s
unfolding Climbs table
tabled n largest zero m [] few h = refl
tabled n largest zero m (v ∷ s) few h = absurd (let none : ⊥ = omega (arith, few, h.0, h.1) in none)
tabled n largest (suc k) m [] few h = tabled n largest k (m + 1) [] (omega (arith, few)) tt
tabled n largest (suc k) m (v ∷ s) few h =
    elim (cases_lt m v.0) [
      | inl later ↦
          let up : Climbs n largest (m + 1) (v ∷ s) = (omega (arith, later), h.1, h.2, h.3) in
          ap (λ e. vertices_from m (e ∷ table (m + 1) k (v ∷ s))) (not_there n largest (m + 1) (v ∷ s) m (omega arith) up)
          ∙ tabled n largest k (m + 1) (v ∷ s) (omega (arith, few)) up
      | inr here ↦
          let same : v.0 ≡ m = omega (arith, here, h.0) in
          let value : value_at (v ∷ s) m ≡ Some v.1 = rw (eq-eqb v.0 m same) refl in
          let rest : Climbs n largest (m + 1) s = climbs_lower n largest (v.0 + 1) (m + 1) s (omega (arith, same)) h.3 in
          ap (λ e. vertices_from m (e ∷ table (m + 1) k (v ∷ s))) value
          ∙ ap (λ es. (m, v.1) ∷ vertices_from (m + 1) es) (past_first v s k (m + 1) (omega (arith, same)))
          ∙ ap (λ t. (m, v.1) ∷ t) (tabled n largest k (m + 1) s (omega (arith, few)) rest)
          ∙ ap (λ p. (p, v.1) ∷ s) (sym same)
    ]

pub vertices-entries_of : (s : Simplex) → IsTaskSimplex s → vertices_from 0 (entries_of s) ≡ s
unfolding table
vertices-entries_of s h = tabled 4 255 4 0 s (omega arith) (climbs 4 255 s h)

small_at : (n largest m : ℕ) (s : Simplex) → Climbs n largest m s → (p : ℕ) → IfSome (value_at s p) (λ x. x ≤ largest)
unfolding Climbs
small_at n largest m [] h p = tt
small_at n largest m (v ∷ s) h p = by (v.0 == p) (small_at n largest (v.0 + 1) s h.3 p)
  where
    by : (here : Bool) → IfSome (value_at s p) (λ x. x ≤ largest) → IfSome (if here then Some v.1 else value_at s p) (λ x. x ≤ largest)
    by true rest = h.2
    by false rest = rest

small_values : (s : Simplex) → IsTaskSimplex s → (p : ℕ) → IfSome (value_at s p) (λ x. x ≤ 255)
small_values s h = small_at 4 255 0 s (climbs 4 255 s h)

pub small_value : (s : Simplex) → IsTaskSimplex s → (p x : ℕ) → value_at s p ≡ Some x → x ≤ 255
small_value s h p x is = subst (λ e. IfSome e (λ y. y ≤ 255)) is (small_values s h p)

-- ---- digits

few : (e : Option ℕ) → IfSome e (λ x. x ≤ 255) → digit_of e ≤ 256
few None small = omega arith
few (Some x) small = omega (arith, small)

entry_of-digit_of : (e : Option ℕ) → IfSome e (λ x. x ≤ 255) → entry_of (digit_of e) ≡ e
entry_of-digit_of None small = refl
entry_of-digit_of (Some x) small = let low : nat_lt x 256 ≡ true = lt-ltb x 256 (omega (arith, small)) in rw low refl

entries_from-digits : (size a b c d : ℕ) → a ≤ 256 → b ≤ 256 → c ≤ 256 → d ≤ 256 →
    entries_from ((((size * 512 + a) * 512 + b) * 512 + c) * 512 + d) ≡ entry_of a ∷ entry_of b ∷ entry_of c ∷ entry_of d ∷ []
entries_from-digits size a b c d few_a few_b few_c few_d =
    let first = size * 512 + a in
    let second = first * 512 + b in
    let third = second * 512 + c in
    let by_three : (third * 512 + d) / 512 ≡ third = div-mul-add third 512 d (omega (arith, few_d)) in
    let by_two : third / 512 ≡ second = div-mul-add second 512 c (omega (arith, few_c)) in
    let by_one : second / 512 ≡ first = div-mul-add first 512 b (omega (arith, few_b)) in
    let is_a : (third * 512 + d) / 512 / 512 / 512 % 512 ≡ a =
    ap (λ n. n / 512 / 512 % 512) by_three ∙ ap (λ n. n / 512 % 512) by_two ∙ ap (λ n. n % 512) by_one ∙ mod-mul-add size 512 a (omega (arith, few_a)) in
    let is_b : (third * 512 + d) / 512 / 512 % 512 ≡ b =
    ap (λ n. n / 512 % 512) by_three ∙ ap (λ n. n % 512) by_two ∙ mod-mul-add first 512 b (omega (arith, few_b)) in
    let is_c : (third * 512 + d) / 512 % 512 ≡ c = ap (λ n. n % 512) by_three ∙ mod-mul-add second 512 c (omega (arith, few_c)) in
    let is_d : (third * 512 + d) % 512 ≡ d = mod-mul-add third 512 d (omega (arith, few_d)) in
    λ i. entry_of (is_a i) ∷ entry_of (is_b i) ∷ entry_of (is_c i) ∷ entry_of (is_d i) ∷ []

-- a key has its simplex's table
pub entries_from-key_of : (s : Simplex) → IsTaskSimplex s → entries_from (key_of s) ≡ entries_of s
entries_from-key_of s h =
    let small = small_values s h in
    entries_from-digits (length s) (digit_of (value_at s 0)) (digit_of (value_at s 1)) (digit_of (value_at s 2)) (digit_of (value_at s 3))
    (few (value_at s 0) (small 0)) (few (value_at s 1) (small 1)) (few (value_at s 2) (small 2)) (few (value_at s 3) (small 3))
    ∙ (λ i. entry_of-digit_of (value_at s 0) (small 0) i ∷ entry_of-digit_of (value_at s 1) (small 1) i ∷ entry_of-digit_of (value_at s 2) (small 2) i ∷ entry_of-digit_of (value_at s 3) (small 3) i ∷ [])

pub simplex_of-key_of : (s : Simplex) → IsTaskSimplex s → simplex_of (key_of s) ≡ s
unfolding simplex_of
simplex_of-key_of s h = ap (vertices_from 0) (entries_from-key_of s h) ∙ vertices-entries_of s h

pub simplex_of-key : (key : ℕ) (s : Simplex) → key ≡ key_of s → IsTaskSimplex s → simplex_of key ≡ s
simplex_of-key key s is h = ap simplex_of is ∙ simplex_of-key_of s h

pub is_key : (key : ℕ) (s : Simplex) → key ≡ key_of s → IsTaskSimplex s → IsKey key
is_key key s is h = record {
  simplex = subst IsTaskSimplex (sym (simplex_of-key key s is h)) h;
  exact = ap key_of (simplex_of-key key s is h) ∙ sym is;
}

-- ---- what stands in a key

pub entry_at : (key p : ℕ) → p < 4 → entry_of (digit_at key p) ≡ value_at (simplex_of key) p
unfolding simplex_of
entry_at key p h = at p h ∙ value_of_entry (entries_from key) p
  where
    at : (p : ℕ) → p < 4 → entry_of (digit_at key p) ≡ slice_index_or (entries_from key) p None
    at zero h = refl
    at (suc zero) h = refl
    at (suc (suc zero)) h = refl
    at (suc (suc (suc zero))) h = refl
    at (suc (suc (suc (suc p)))) h = absurd (let none : ⊥ = omega (arith, h) in none)

pub no_entry_at : (key p : ℕ) → 4 ≤ p → None ≡ value_at (simplex_of key) p
unfolding simplex_of
no_entry_at key p h = sym (past_end (entries_from key) p h) ∙ value_of_entry (entries_from key) p

-- the vertices of the processes from p on
unfoldable pub vertices_on : ℕ → ℕ → Simplex
vertices_on key p = vertices_from p (drop p (entries_from key))

pub all_on : (key : ℕ) → vertices_on key 0 ≡ simplex_of key
unfolding vertices_on simplex_of
all_on key = refl

pub none_on : (key p : ℕ) → 4 ≤ p → vertices_on key p ≡ []
unfolding vertices_on
none_on key p h = ap (vertices_from p) (drop_of_length-le (entries_from key) h)

pub on_present : (key p : ℕ) → p < 4 → digit_at key p < 256 → vertices_on key p ≡ (p, digit_at key p) ∷ vertices_on key (p + 1)
unfolding vertices_on
on_present key zero h low = rw (lt-ltb (digit_at key 0) 256 low) refl
on_present key (suc zero) h low = rw (lt-ltb (digit_at key 1) 256 low) refl
on_present key (suc (suc zero)) h low = rw (lt-ltb (digit_at key 2) 256 low) refl
on_present key (suc (suc (suc zero))) h low = rw (lt-ltb (digit_at key 3) 256 low) refl
on_present key (suc (suc (suc (suc p)))) h low = absurd (let none : ⊥ = omega (arith, h) in none)

pub on_absent : (key p : ℕ) → p < 4 → 256 ≤ digit_at key p → vertices_on key p ≡ vertices_on key (p + 1)
unfolding vertices_on
on_absent key zero h high = rw (le-ltb (digit_at key 0) 256 high) refl
on_absent key (suc zero) h high = rw (le-ltb (digit_at key 1) 256 high) refl
on_absent key (suc (suc zero)) h high = rw (le-ltb (digit_at key 2) 256 high) refl
on_absent key (suc (suc (suc zero))) h high = rw (le-ltb (digit_at key 3) 256 high) refl
on_absent key (suc (suc (suc (suc p)))) h high = absurd (let none : ⊥ = omega (arith, h) in none)

pub size_of_key : (s : Simplex) → IsTaskSimplex s → key_of s / one_vertex ≡ length s
size_of_key s h =
    let small = small_values s h in
    let rest = ((digit_of (value_at s 0) * 512 + digit_of (value_at s 1)) * 512 + digit_of (value_at s 2)) * 512 + digit_of (value_at s 3) in
    let low : rest < one_vertex = omega (arith, few (value_at s 0) (small 0), few (value_at s 1) (small 1), few (value_at s 2) (small 2), few (value_at s 3) (small 3)) in
    let is : key_of s ≡ length s * one_vertex + rest = omega arith in
    ap (λ n. n / one_vertex) is ∙ div-mul-add (length s) one_vertex rest low

pub key_of-below : (s : Simplex) → IsTaskSimplex s → key_of s < key_limit
key_of-below s h =
    let small = small_values s h in
    omega (arith, length-within 4 255 s h, few (value_at s 0) (small 0), few (value_at s 1) (small 1), few (value_at s 2) (small 2), few (value_at s 3) (small 3))

-- ---- one more vertex

pub value_at-other : (s : Simplex) (p x q : ℕ) → (p == q) ≡ false → value_at (s ++ ((p, x) ∷ [])) q ≡ value_at s q
value_at-other [] p x q ne = rw ne refl
value_at-other (v ∷ s) p x q ne = ap (λ o. if v.0 == q then Some v.1 else o) (value_at-other s p x q ne)

value_at-new : (s : Simplex) (p x : ℕ) → value_at s p ≡ None → value_at (s ++ ((p, x) ∷ [])) p ≡ Some x
value_at-new [] p x h = rw (eq-eqb p p refl) refl
value_at-new (v ∷ s) p x h = by (v.0 == p) (value_at-new s p x) h
  where
    by : (here : Bool) → (value_at s p ≡ None → value_at (s ++ ((p, x) ∷ [])) p ≡ Some x)
        → (if here then Some v.1 else value_at s p) ≡ None → (if here then Some v.1 else value_at (s ++ ((p, x) ∷ [])) p) ≡ Some x
    by true rest h = cc
    by false rest h = rest h

-- the key with one more vertex
pub key_of-joined : (s : Simplex) (p x : ℕ) → p < 4 → x ≤ 255 → value_at s p ≡ None
    → key_of s + one_vertex - (256 - x) * unit_of p ≡ key_of (s ++ ((p, x) ∷ []))
key_of-joined s p x low small free = at p low (ap digit_of free) (ap digit_of (value_at-new s p x free)) (λ q ne. ap digit_of (value_at-other s p x q ne)) (length-append s ((p, x) ∷ []))
  where
    Digit : Simplex → ℕ → ℕ
    Digit t q = digit_of (value_at t q)

    at : (p : ℕ) → p < 4 → Digit s p ≡ 256 → Digit (s ++ ((p, x) ∷ [])) p ≡ x → ((q : ℕ) → (p == q) ≡ false → Digit (s ++ ((p, x) ∷ [])) q ≡ Digit s q)
        → length (s ++ ((p, x) ∷ [])) ≡ length s + 1 → key_of s + one_vertex - (256 - x) * unit_of p ≡ key_of (s ++ ((p, x) ∷ []))
    at zero low was is stays more = omega (arith, small, was, is, stays 1 refl, stays 2 refl, stays 3 refl, more)
    at (suc zero) low was is stays more = omega (arith, small, was, is, stays 0 refl, stays 2 refl, stays 3 refl, more)
    at (suc (suc zero)) low was is stays more = omega (arith, small, was, is, stays 0 refl, stays 1 refl, stays 3 refl, more)
    at (suc (suc (suc zero))) low was is stays more = omega (arith, small, was, is, stays 0 refl, stays 1 refl, stays 2 refl, more)
    at (suc (suc (suc (suc p)))) low was is stays more = absurd (let none : ⊥ = omega (arith, low) in none)

-- a vertex at the end is of a later process
last_is : (n largest m : ℕ) (s : Simplex) (p x : ℕ) → Climbs n largest m (s ++ ((p, x) ∷ [])) → (m ≤ p) × (p < n) × (x ≤ largest) × (value_at s p ≡ None)
unfolding Climbs
last_is n largest m [] p x h = (h.0, h.1, h.2, refl)
last_is n largest m (v ∷ s) p x h =
    let rest = last_is n largest (v.0 + 1) s p x h.3 in
    let ne : v.0 == p ≡ false = ne_eqb v.0 p (λ e. omega (arith, rest.0, e)) in
    let from : m ≤ p = omega (arith, h.0, rest.0) in
    (from, rest.1, rest.2, rw ne rest.3)

module _ (s : Simplex) (p x : ℕ) (h : IsTaskSimplex (s ++ ((p, x) ∷ []))) where
  last : (0 ≤ p) × (p < 4) × (x ≤ 255) × (value_at s p ≡ None)
  last = last_is 4 255 0 s p x (climbs 4 255 (s ++ ((p, x) ∷ [])) h)

  pub last_process : p < 4
  last_process = last.1

  pub joined_key : key_of s + one_vertex - (256 - x) * unit_of p ≡ key_of (s ++ ((p, x) ∷ []))
  joined_key = key_of-joined s p x last.1 last.2 last.3

-- ---- the order

-- numbers of a first part and a digit are ordered by the first part, and then by the digit
by_digit : (a b c d : ℕ) → b ≤ 256 → d ≤ 256 → ordering_then (nat_cmp a c) (nat_cmp b d) ≡ nat_cmp (a * 512 + b) (c * 512 + d)
by_digit a b c d few_b few_d = by (nat_cmp a c) refl (nat_cmp b d) refl
  where
    by : (r : Ordering) → r ≡ nat_cmp a c → (s : Ordering) → s ≡ nat_cmp b d → ordering_then r s ≡ nat_cmp (a * 512 + b) (c * 512 + d)
    by Less is s is_s = nat_cmp_is (a * 512 + b) (c * 512 + d) Less (omega (arith, ranked a c Less is, few_b, few_d))
    by Greater is s is_s = nat_cmp_is (a * 512 + b) (c * 512 + d) Greater (omega (arith, ranked a c Greater is, few_b, few_d))
    by Equal is Less is_s = nat_cmp_is (a * 512 + b) (c * 512 + d) Less (omega (arith, ranked a c Equal is, ranked b d Less is_s))
    by Equal is Equal is_s = nat_cmp_is (a * 512 + b) (c * 512 + d) Equal (omega (arith, ranked a c Equal is, ranked b d Equal is_s))
    by Equal is Greater is_s = nat_cmp_is (a * 512 + b) (c * 512 + d) Greater (omega (arith, ranked a c Equal is, ranked b d Greater is_s))

-- an absent entry comes last
entries_compared : (e f : Option ℕ) → IfSome e (λ x. x ≤ 255) → IfSome f (λ x. x ≤ 255) → entry_cmp e f ≡ nat_cmp (digit_of e) (digit_of f)
entries_compared None None small_e small_f = nat_cmp_is 256 256 Equal refl
entries_compared None (Some y) small_e small_f = nat_cmp_is 256 y Greater (omega (arith, small_f))
entries_compared (Some x) None small_e small_f = nat_cmp_is x 256 Less (omega (arith, small_e))
entries_compared (Some x) (Some y) small_e small_f = refl

-- one digit more
digit_more : (r : Ordering) (a c : ℕ) (e f : Option ℕ) → IfSome e (λ x. x ≤ 255) → IfSome f (λ x. x ≤ 255) → r ≡ nat_cmp a c
    → ordering_then r (entry_cmp e f) ≡ nat_cmp (a * 512 + digit_of e) (c * 512 + digit_of f)
digit_more r a c e f small_e small_f is =
    ap₂ ordering_then is (entries_compared e f small_e small_f) ∙ by_digit a (digit_of e) c (digit_of f) (few e small_e) (few f small_f)

pub keys_compared : (s t : Simplex) → IsTaskSimplex s → IsTaskSimplex t → nat_cmp (key_of s) (key_of t) ≡ simplex_cmp s t
keys_compared s t h g =
    let small_s = small_values s h in
    let small_t = small_values t g in
    let of_s = vertices-entries_of s h in
    let of_t = vertices-entries_of t g in
    let sizes : nat_cmp (length s) (length t) ≡ nat_cmp (length (vertices_from 0 (entries_of s))) (length (vertices_from 0 (entries_of t))) =
    ap₂ nat_cmp (ap length (sym of_s)) (ap length (sym of_t)) in
    sym (digit_more _ _ _ (value_at s 3) (value_at t 3) (small_s 3) (small_t 3)
    (digit_more _ _ _ (value_at s 2) (value_at t 2) (small_s 2) (small_t 2)
    (digit_more _ _ _ (value_at s 1) (value_at t 1) (small_s 1) (small_t 1)
    (digit_more (nat_cmp (length s) (length t)) (length s) (length t) (value_at s 0) (value_at t 0) (small_s 0) (small_t 0) refl))))
    ∙ ordered_by_entries (nat_cmp (length s) (length t)) (value_at s 0) (value_at s 1) (value_at s 2) (value_at s 3) (value_at t 0) (value_at t 1) (value_at t 2) (value_at t 3) sizes
    ∙ ap₂ simplex_cmp of_s of_t

pub ordered_by_keys : (k l : ℕ) → IsKey k → IsKey l → nat_cmp k l ≡ simplex_cmp (simplex_of k) (simplex_of l)
ordered_by_keys k l h g = ap₂ nat_cmp (sym h.exact) (sym g.exact) ∙ keys_compared (simplex_of k) (simplex_of l) h.simplex g.simplex

-- simplices of one key are one
pub same_by_keys : (k l : ℕ) → IsKey k → IsKey l → (k == l) ≡ same_simplex (simplex_of k) (simplex_of l)
same_by_keys k l h g =
    both_ways (k == l) (same_simplex (simplex_of k) (simplex_of l))
    (λ e. (same_simplex-decides (simplex_of k) (simplex_of l)).1 (ap simplex_of (eqb-true k l e)))
    (λ e. eq-eqb k l (sym h.exact ∙ ap key_of ((same_simplex-decides (simplex_of k) (simplex_of l)).0 e) ∙ g.exact))

-- the test of the digits is the test of the vertices
pub face_by_keys : (k l : ℕ) → IsKey k →
    (is_within (entry_of (digit_at k 0)) (entry_of (digit_at l 0)) && is_within (entry_of (digit_at k 1)) (entry_of (digit_at l 1))
    && is_within (entry_of (digit_at k 2)) (entry_of (digit_at l 2)) && is_within (entry_of (digit_at k 3)) (entry_of (digit_at l 3))) ≡ is_face (simplex_of k) (simplex_of l)
unfolding simplex_of
face_by_keys k l h =
    face_by_entries (entry_of (digit_at k 0)) (entry_of (digit_at k 1)) (entry_of (digit_at k 2)) (entry_of (digit_at k 3))
    (entry_of (digit_at l 0)) (entry_of (digit_at l 1)) (entry_of (digit_at l 2)) (entry_of (digit_at l 3)) (nonempty_of_simplex (simplex_of k) h.simplex.is_simplex)
