-- How many views and places there are at most.
use Rattle.std.proofs.Common.{◌≡◌, ◌≤◌, ℕ, zero, suc, ◌+◌, ◌*◌, List, [], ◌∷◌, flat_map, length, sym, refl, ◌∙◌, subst, arith, length-append}
use Rattle.std.specs.List.{AllByRecursion}
use Rattle.std.proofs.Math.Nat.{mul-le-mul_right, mul-le-mul_left}
use Rattle.wf_model.specs.Simplex.{Simplex}
use Rattle.wf_model.specs.View.{View, base_views, round}
use Rattle.wf_model.specs.Word.{Word, words}
use Rattle.wf_model.proofs.Lemmas.{words_long}
use Rattle.wf_complex.specs.Rounds.{leaves, leaves_of, cost, cost_of_each}
use Rattle.wf_complex.specs.Layout.{turns, execution_total, place_total}
use Rattle.wf_complex.proofs.RoundLemmas.{length-round}
use Rattle.wf_complex.proofs.InputLemmas.{length-base_views}
use Rattle.wf_complex.proofs.LayoutLemmas.{words_some}

-- ---- views

turns_some : (m n k : ℕ) → 1 ≤ length (words m n) → 1 ≤ turns m n k
turns_some m n zero h = omega arith
turns_some m n (suc k) h = omega (arith, mul-le-mul_right {m = 1} {n = length (words m n)} (turns m n k) h, turns_some m n k h)

-- each round adds at most a view for each participant of each execution so far
scaled : (w t n c k : ℕ) → 1 ≤ t → c ≤ t * (n * k) → w * (n + c) ≤ w * t * (n * (k + 1))
scaled w t n c k some few =
    let a : n * 1 ≤ n * t = mul-le-mul_left {m = 1} {n = t} n some in
    let e : t * (n * (k + 1)) ≡ n * t + t * (n * k) = grind arith in
    let b : n + c ≤ t * (n * (k + 1)) = omega (arith, a, e, few) in
    let d : w * (n + c) ≤ w * (t * (n * (k + 1))) = mul-le-mul_left {m = n + c} {n = t * (n * (k + 1))} w b in
    let f : w * t * (n * (k + 1)) ≡ w * (t * (n * (k + 1))) = grind arith in
    omega (arith, d, f)

cost_few : (m n k : ℕ) → 1 ≤ length (words m n) → cost (length (words m n)) n k ≤ turns m n k * (n * k)
cost_few m n zero h = omega arith
cost_few m n (suc k) h =
    let e : suc k ≡ k + 1 = omega arith in
    subst (λ j. length (words m n) * (n + cost (length (words m n)) n k) ≤ length (words m n) * turns m n k * (n * j)) (sym e) (scaled (length (words m n)) (turns m n k) n (cost (length (words m n)) n k) k (turns_some m n k h) (cost_few m n k h))

-- a size from 1 to 4
abbrev pub IsSized : Simplex → Type 0
IsSized s = (1 ≤ length s) × (length s ≤ 4)

pub cost_bound : (m rounds : ℕ) (ss : List Simplex) → 1 ≤ m → m ≤ 4 → rounds ≤ 8 → AllByRecursion IsSized ss → cost_of_each m rounds ss ≤ 4 * length ss + 32 * execution_total m rounds ss
cost_bound m rounds [] one most few h = omega arith
cost_bound m rounds (s ∷ ss) one most few h =
    let n = length s in
    let here : cost (length (words m (length s))) (length s) rounds ≤ turns m (length s) rounds * (length s * rounds) = cost_few m (length s) rounds (words_some m (length s) one most h.0.0 h.0.1) in
    let small : length s * rounds ≤ 4 * 8 = omega (arith, mul-le-mul_right {m = length s} {n = 4} rounds h.0.1, mul-le-mul_left {m = rounds} {n = 8} 4 few) in
    let wide : turns m (length s) rounds * (length s * rounds) ≤ turns m (length s) rounds * 32 = mul-le-mul_left {m = length s * rounds} {n = 32} (turns m (length s) rounds) small in
    omega (arith, here, wide, h.0.1, cost_bound m rounds ss one most few h.1)

-- ---- places

pub suc_times : (m n : ℕ) → suc m * n ≡ n + m * n
suc_times m n = grind arith

length-leaves : (n : ℕ) (ws : List Word) (k t : ℕ) → ((us : List View) → length us ≡ n → length (leaves ws k us) ≡ t) →
    (all : List Word) → AllByRecursion (λ w. length w ≡ n) all → (vs : List View) → length vs ≡ n → length (flat_map (λ w. leaves ws k (round vs w)) all) ≡ length all * t
length-leaves n ws k t each [] a vs long = omega arith
length-leaves n ws k t each (w ∷ all) a vs long =
    length-append (leaves ws k (round vs w)) (flat_map (λ u. leaves ws k (round vs u)) all)
    ∙ (λ i. each (round vs w) (length-round vs w (long ∙ sym a.0) ∙ long) i + length-leaves n ws k t each all a.1 vs long i)
    ∙ sym (suc_times (length all) t)

leaves_count : (m n k : ℕ) (vs : List View) → length vs ≡ n → length (leaves (words m n) k vs) ≡ turns m n k * n
leaves_count m n zero vs long = let e : 1 * n ≡ n = omega arith in long ∙ sym e
leaves_count m n (suc k) vs long =
    let e : length (words m n) * turns m n k * n ≡ length (words m n) * (turns m n k * n) = times (length (words m n)) (turns m n k) n in
    length-leaves n (words m n) k (turns m n k * n) (leaves_count m n k) (words m n) (words_long m n) vs long ∙ sym e
  where
    times : (a b c : ℕ) → a * b * c ≡ a * (b * c)
    times a b c = grind arith

pub length-last_views : (m rounds : ℕ) (ss : List Simplex) → length (flat_map (leaves_of m rounds) ss) ≡ place_total m rounds ss
length-last_views m rounds [] = refl
length-last_views m rounds (s ∷ ss) =
    length-append (leaves_of m rounds s) (flat_map (leaves_of m rounds) ss)
    ∙ (λ i. leaves_count m (length s) rounds (base_views s) (length-base_views s) i + length-last_views m rounds ss i)
