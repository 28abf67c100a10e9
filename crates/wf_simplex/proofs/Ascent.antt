-- Processes that strictly ascend and are below a bound, one after another.
use Rattle.std.proofs.Common.{◌≡◌, ℕ, ◌+◌, ◌<◌, ◌≤◌, Bool, true, false, ◌&&◌, nat_lt, nat_le, List, [], ◌∷◌, All, refl, sym, ◌∙◌, arith, le-leb, lt-ltb, leb-true, ltb-true}
use Rattle.std.specs.List.{list_all}
use Rattle.std.proofs.lemmas.Bool.{and_parts, and_from}
use Rattle.std.proofs.lemmas.List.Elements.{All-nil, All-cons}
use Rattle.wf_model.specs.Simplex.{Simplex, processes_of, is_ascending}

-- processes strictly ascending, from m on and below n
abbrev pub ascends_below : ℕ → ℕ → Simplex → Bool
ascends_below n m [] = true
ascends_below n m (v ∷ s) = nat_le m v.0 && nat_lt v.0 n && ascends_below n (v.0 + 1) s

-- the processes strictly ascend, and each is below n
abbrev pub are_processes : ℕ → Simplex → Bool
are_processes n s = is_ascending (processes_of s) && list_all (λ p. nat_lt p n) (processes_of s)

pub low_processes : (n : ℕ) (ps : List ℕ) → list_all (λ p. nat_lt p n) ps ≡ true → All (λ p. p < n) ps
low_processes n [] h = All-nil (λ p. p < n)
low_processes n (p ∷ ps) h =
    All-cons (λ p. p < n) p ps (ltb-true p n (and_parts (nat_lt p n) (list_all (λ p. nat_lt p n) ps) h).0) (low_processes n ps (and_parts (nat_lt p n) (list_all (λ p. nat_lt p n) ps) h).1)

-- ---- ascending processes

starts_at : ℕ → Simplex → Type 0
starts_at m [] = Unit {0}
starts_at m (v ∷ s) = m ≤ v.0

processes_from_ascent : (n : ℕ) (m : ℕ) (s : Simplex) → ascends_below n m s ≡ true → are_processes n s ≡ true × starts_at m s
unfolding starts_at
processes_from_ascent n m [] h = (refl, tt)
processes_from_ascent n m (v ∷ []) h =
    let low = leb-true m v.0 (and_parts _ _ (and_parts _ _ h).0).0 in
    (and_from _ _ (and_parts _ _ (and_parts _ _ h).0).1 refl, low)
processes_from_ascent n m (v ∷ w ∷ s) h =
    let low : m ≤ v.0 = leb-true m v.0 (and_parts (nat_le m v.0) (nat_lt v.0 n) (and_parts (nat_le m v.0 && nat_lt v.0 n) (ascends_below n (v.0 + 1) (w ∷ s)) h).0).0 in
    let small = (and_parts (nat_le m v.0) (nat_lt v.0 n) (and_parts (nat_le m v.0 && nat_lt v.0 n) (ascends_below n (v.0 + 1) (w ∷ s)) h).0).1 in
    let rest = processes_from_ascent n (v.0 + 1) (w ∷ s) (and_parts (nat_le m v.0 && nat_lt v.0 n) (ascends_below n (v.0 + 1) (w ∷ s)) h).1 in
    let up : v.0 < w.0 = omega (arith, rest.1) in
    (and_from _ _ (and_from _ _ (lt-ltb v.0 w.0 up) (and_parts _ _ rest.0).0) (and_from _ _ small (and_parts _ _ rest.0).1), low)

processes_of_ascending : (n : ℕ) (s : Simplex) → ascends_below n 0 s ≡ true → are_processes n s ≡ true
processes_of_ascending n s h = (processes_from_ascent n 0 s h).0

ascending_of : (n : ℕ) (m : ℕ) (s : Simplex) → are_processes n s ≡ true → starts_at m s → ascends_below n m s ≡ true
unfolding starts_at
ascending_of n m [] h low = refl
ascending_of n m (v ∷ []) h low =
    let small = (and_parts (nat_lt v.0 n) true (and_parts true (nat_lt v.0 n && true) h).1).0 in
    and_from _ _ (and_from _ _ (le-leb m v.0 low) small) refl
ascending_of n m (v ∷ w ∷ s) h low =
    let up = (and_parts (is_ascending (processes_of (v ∷ w ∷ s))) (list_all (λ p. nat_lt p n) (processes_of (v ∷ w ∷ s))) h).0 in
    let small = (and_parts (is_ascending (processes_of (v ∷ w ∷ s))) (list_all (λ p. nat_lt p n) (processes_of (v ∷ w ∷ s))) h).1 in
    let next : v.0 < w.0 = ltb-true v.0 w.0 (and_parts (nat_lt v.0 w.0) (is_ascending (processes_of (w ∷ s))) up).0 in
    let below = (and_parts (nat_lt v.0 n) (list_all (λ p. nat_lt p n) (processes_of (w ∷ s))) small).0 in
    let rest = and_from (is_ascending (processes_of (w ∷ s))) (list_all (λ p. nat_lt p n) (processes_of (w ∷ s)))
    (and_parts (nat_lt v.0 w.0) (is_ascending (processes_of (w ∷ s))) up).1 (and_parts (nat_lt v.0 n) (list_all (λ p. nat_lt p n) (processes_of (w ∷ s))) small).1 in
    and_from (nat_le m v.0 && nat_lt v.0 n) (ascends_below n (v.0 + 1) (w ∷ s)) (and_from (nat_le m v.0) (nat_lt v.0 n) (le-leb m v.0 low) below)
    (ascending_of n (v.0 + 1) (w ∷ s) rest (omega arith))

starts_at-zero : (s : Simplex) → starts_at 0 s
unfolding starts_at
starts_at-zero [] = tt
starts_at-zero (v ∷ s) = omega arith

ascending_of_processes : (n : ℕ) (s : Simplex) → are_processes n s ≡ true → ascends_below n 0 s ≡ true
ascending_of_processes n s h = ascending_of n 0 s h (starts_at-zero s)

ascent_both_ways : (n : ℕ) (s : Simplex) (a b : Bool) → ascends_below n 0 s ≡ a → are_processes n s ≡ b → a ≡ b
ascent_both_ways n s true true h k = refl
ascent_both_ways n s true false h k = sym (processes_of_ascending n s h) ∙ k
ascent_both_ways n s false true h k = sym h ∙ ascending_of_processes n s k
ascent_both_ways n s false false h k = refl

pub ascent_below : (n : ℕ) (s : Simplex) → ascends_below n 0 s ≡ are_processes n s
ascent_below n s = ascent_both_ways n s (ascends_below n 0 s) (are_processes n s) refl refl
