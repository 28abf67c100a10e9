-- Ranks of processes in a set of them.
use Rattle.std.proofs.Common.{◌≡◌, ◌<◌, ◌≤◌, ◌+◌, ◌-◌, ◌==◌, ◌||◌, ◌/◌, ◌^◌, ℕ, zero, suc, Bool, true, false, [], ◌∷◌, filter, length, cond, sym, refl, ap, subst, ◌∙◌, inl, inr, arith, length-append, eqb-true, eq-eqb}
use Rattle.std.specs.Int.Bits.{bit_and}
use Rattle.std.proofs.lemmas.Bool.{cases_lt, or_cases, ne_eqb}
use Rattle.std.proofs.lemmas.Nat.Bits.{shr_and_one, bit_at_ones, bit_at_ones_above}
use Rattle.std.specs.Int.{bit_at}
use Rattle.std.proofs.lemmas.List.Elements.{filter-append}
use Rattle.std.proofs.lemmas.List.FromFn.{length-range_with_len}
use Rattle.wf_model.specs.Lists.{below}
use Rattle.wf_model.proofs.Lemmas.{below_next, length_filter}
use Rattle.wf_complex.specs.Renaming.{rank_in, are_lowest}

pub rank_in-next : (s p : ℕ) → rank_in s (p + 1) ≡ rank_in s p + cond (bit_at s p == 1) 1 0
rank_in-next s p =
    ap (λ ps. length (filter (λ q. bit_at s q == 1) ps)) (below_next p) ∙ ap length (filter-append (λ q. bit_at s q == 1) (below p) (p ∷ []))
    ∙ length-append (filter (λ q. bit_at s q == 1) (below p)) (filter (λ q. bit_at s q == 1) (p ∷ []))
    ∙ ap (λ n. rank_in s p + n) (last (bit_at s p == 1))
  where
    last : (b : Bool) → length (cond b (p ∷ []) []) ≡ cond b 1 0
    last true = refl
    last false = refl

-- a rank is at most the process
pub rank_in-low : (s p : ℕ) → rank_in s p ≤ p
rank_in-low s p = omega (arith, length_filter (λ q. bit_at s q == 1) (below p), length-range_with_len 0 p)

-- one process more, which is in the set
pub rank_in-with : (s p r after : ℕ) → r ≡ rank_in s p → after ≡ r + 1 → bit_and (s / 2 ^ p) 1 ≡ 1 → after ≡ rank_in s (p + 1)
rank_in-with s p r after is step h =
    let e : (bit_at s p == 1) ≡ true = eq-eqb (bit_at s p) 1 (sym (shr_and_one s p) ∙ h) in
    step ∙ ap (λ n. n + 1) is ∙ sym (rank_in-next s p ∙ ap (λ b. rank_in s p + cond b 1 0) e)

-- one process more, which isn't
pub rank_in-without : (s p r after : ℕ) → r ≡ rank_in s p → after ≡ r → (bit_and (s / 2 ^ p) 1 ≡ 1 → ⊥) → after ≡ rank_in s (p + 1)
rank_in-without s p r after is step h =
    let e : (bit_at s p == 1) ≡ false = ne_eqb (bit_at s p) 1 (λ k. h (shr_and_one s p ∙ k)) in
    let z : rank_in s p + 0 ≡ rank_in s p = omega arith in
    step ∙ is ∙ sym (rank_in-next s p ∙ ap (λ b. rank_in s p + cond b 1 0) e ∙ z)

-- ---- processes with none left out below them

all_below : (s p : ℕ) → ((q : ℕ) → q < p → bit_at s q ≡ 1) → rank_in s p ≡ p
all_below s zero h = refl
all_below s (suc p) h =
    let next : p + 1 ≡ suc p = omega arith in
    let e : (bit_at s p == 1) ≡ true = eq-eqb (bit_at s p) 1 (h p (omega arith)) in
    let before : rank_in s p ≡ p = all_below s p (λ q low. h q (omega (arith, low))) in
    subst (λ n. rank_in s n ≡ n) next (rank_in-next s p ∙ (λ i. before i + cond (e i) 1 0))

own_rank_in : (k p : ℕ) → bit_at (2 ^ k - 1) p ≡ 1 → rank_in (2 ^ k - 1) p ≡ p
own_rank_in k p h =
    elim (cases_lt p k) [
      | inl low ↦ all_below (2 ^ k - 1) p (λ q before. bit_at_ones k q (omega (arith, before, low)))
      | inr high ↦ absurd (let none : 0 ≡ 1 = sym (bit_at_ones_above k p high) ∙ h in omega (arith, none))
    ]

lowest_count : (s : ℕ) → are_lowest s ≡ true → (k : ℕ) × (s ≡ 2 ^ k - 1)
lowest_count s h =
    elim (or_cases (s == 1) ((s == 3) || ((s == 7) || (s == 15))) h) [
      | inl one ↦ (1, eqb-true s 1 one)
      | inr more ↦ elim (or_cases (s == 3) ((s == 7) || (s == 15)) more) [
        | inl two ↦ (2, eqb-true s 3 two)
        | inr most ↦ elim (or_cases (s == 7) (s == 15) most) [ inl three ↦ (3, eqb-true s 7 three) | inr four ↦ (4, eqb-true s 15 four) ]
      ]
    ]

-- each has its own number as its rank
pub own_rank : (s p : ℕ) → are_lowest s ≡ true → bit_at s p ≡ 1 → rank_in s p ≡ p
own_rank s p h there =
    let at = lowest_count s h in
    subst (λ t. rank_in t p ≡ p) (sym at.1) (own_rank_in at.0 p (ap (λ t. bit_at t p) (sym at.1) ∙ there))
