-- Parts that are packed in a number.
use Rattle.std.proofs.Common.{◌≡◌, ℕ, ◌/◌, ◌%◌, ◌<◌, ◌≤◌, ◌^◌, true, List, [], ◌∷◌, map, length, get_or, slice_index, All, refl, sym, ap, ◌∙◌, inl, inr, arith, drop, eq-eqb, eqb-true, div-add-mod', mod-lt, pow_pos}
use Rattle.std.specs.Int.{bit_at}
use Rattle.std.proofs.lemmas.Bool.{cases_lt, false≢true}
use Rattle.std.proofs.lemmas.List.{get_or-map, length-map}
use Rattle.std.proofs.lemmas.List.Elements.{All-cons, All-map, All-nil}
use Rattle.std.proofs.lemmas.Nat.Bits.{bit_at_above, bit_at_cat_low}
use Rattle.wf_model.specs.Lists.{has}
use Rattle.wf_lane.specs.Table.{HasSupported, Table, sets_of}
use Rattle.wf_base.specs.Set.Parts.{part_values}
use Rattle.wf_base.specs.Set.Sets.{values_in}
use Rattle.wf_base.proofs.OfSet.Lemmas.{has-part_values, has_large, values_of_part}
use Rattle.wf_network.specs.Revising.{nibbles_in, parts_in, wide_set, widened}
use Rattle.wf_network.proofs.LeftLemmas.{sets_at, supported_there}

-- ---- parts and their sets

-- no other parts have the same sets
pub same_parts : (parts others : List ℕ) → widened parts ≡ widened others → parts ≡ others
same_parts [] [] same = refl
same_parts [] (o ∷ others) same = absurd (let none : ⊥ = omega (arith, ap length same) in none)
same_parts (p ∷ parts) [] same = absurd (let none : ⊥ = omega (arith, ap length same) in none)
same_parts (p ∷ parts) (o ∷ others) same =
    let head : p ≡ o = ap (λ (sets : List (List ℕ)). slice_index (get_or sets 0 []) 0) same in
    let tail : parts ≡ others = same_parts parts others (ap (drop 1) same) in
    λ i. head i ∷ tail i

-- ---- parts without what is not below a power of two

has_bit : (word v : ℕ) → has (part_values word) v ≡ true → (v < 64) × (bit_at word v ≡ 1)
has_bit word v there = elim (cases_lt v 64) [
  | inl low ↦ (low, eqb-true _ 1 (sym (has-part_values word v low) ∙ there))
  | inr large ↦ absurd (false≢true (sym (has_large word v (λ low. absurd (let none : ⊥ = omega (arith, low, large) in none))) ∙ there))
]

bit_has : (word v : ℕ) → v < 64 → bit_at word v ≡ 1 → has (part_values word) v ≡ true
bit_has word v low is = has-part_values word v low ∙ eq-eqb _ 1 is

-- the bits below the power stay
low_bit : (bits part v : ℕ) → v < bits → bit_at (part % 2 ^ bits) v ≡ bit_at part v
low_bit bits part v low = sym (bit_at_cat_low (part / 2 ^ bits) bits (part % 2 ^ bits) v low) ∙ ap (λ n. bit_at n v) (div-add-mod' part (2 ^ bits))

cut_has : (bits part v : ℕ) → has (part_values (part % 2 ^ bits)) v ≡ true → has (part_values part) v ≡ true
cut_has bits part v there =
    let bit = has_bit (part % 2 ^ bits) v there in
    elim (cases_lt v bits) [
      | inl low ↦ bit_has part v bit.0 (sym (low_bit bits part v low) ∙ bit.1)
      | inr high ↦ absurd (let none : ⊥ = omega (arith, bit.1, bit_at_above (part % 2 ^ bits) bits v (mod-lt part (pow_pos bits)) high) in none)
    ]

has_cut : (bits part other v : ℕ) → other < 2 ^ bits → has (part_values other) v ≡ true → has (part_values part) v ≡ true → has (part_values (part % 2 ^ bits)) v ≡ true
has_cut bits part other v below found there =
    let bit = has_bit part v there in
    elim (cases_lt v bits) [
      | inl low ↦ bit_has (part % 2 ^ bits) v bit.0 (low_bit bits part v low ∙ bit.1)
      | inr high ↦ absurd (let none : ⊥ = omega (arith, (has_bit other v found).1, bit_at_above other bits v below high) in none)
    ]

-- parts that are packed are below their limit
four_low : (bits a b c d : ℕ) → a < 2 ^ bits → b < 2 ^ bits → c < 2 ^ bits → d < 2 ^ bits → All (λ p. p < 2 ^ bits) (a ∷ b ∷ c ∷ d ∷ [])
four_low bits a b c d first second third fourth =
    let P = λ (p : ℕ). p < 2 ^ bits in
    All-cons P a (b ∷ c ∷ d ∷ []) first (All-cons P b (c ∷ d ∷ []) second (All-cons P c (d ∷ []) third (All-cons P d [] fourth (All-nil P))))

pub nibbles_low : (n : ℕ) → n < 2 ^ 16 → All (λ p. p < 2 ^ 4) (nibbles_in n)
nibbles_low n small = four_low 4 (n % 16) (n / 16 % 16) (n / 256 % 16) (n / 4096) (omega arith) (omega arith) (omega arith) (omega (arith, small))

pub parts_low : (n : ℕ) → n < 2 ^ 64 → All (λ p. p < 2 ^ 16) (parts_in n)
parts_low n small = four_low 16 (n % 65536) (n / 65536 % 65536) (n / 4294967296 % 65536) (n / 281474976710656) (omega arith) (omega arith) (omega arith) (omega (arith, small))

pub cut_low : (limit : ℕ) → 0 < limit → (parts : List ℕ) → All (λ p. p < limit) (map (λ p. p % limit) parts)
cut_low limit some parts = All-map (λ p. p < limit) (λ p. p % limit) parts (λ i d low. mod-lt (get_or parts i d) some)

-- the values of a place
values_at : (parts : List ℕ) (place : ℕ) → place < length parts → values_in (get_or (widened parts) place []) ≡ part_values (slice_index parts place)
values_at parts place low = ap values_in (get_or-map wide_set parts place 0 [] low) ∙ values_of_part (slice_index parts place)

-- what is supported is all there below a power of two, where the candidates are
pub cut_supported : (bits : ℕ) (table : Table) (parts candidates : List ℕ) → length parts ≡ 4 → length candidates ≡ 4 → table.width ≤ 4 → All (λ p. p < 2 ^ bits) candidates
    → HasSupported (widened parts) table (widened candidates) → HasSupported (widened (map (λ p. p % 2 ^ bits) parts)) table (widened candidates)
cut_supported bits table parts candidates long many narrow below right place v low =
    let within : place < 4 = omega (arith, low, narrow) in
    let cut = λ (p : ℕ). p % 2 ^ bits in
    let part = slice_index parts place in
    let candidate = slice_index candidates place in
    let sets = sets_of table.width (widened candidates) in
    let before : values_in (get_or (widened parts) place []) ≡ part_values part = values_at parts place (omega (arith, within, long)) in
    let after : values_in (get_or (widened (map cut parts)) place []) ≡ part_values (cut part) =
    values_at (map cut parts) place (omega (arith, within, long, length-map parts cut)) ∙ ap part_values (get_or-map cut parts place 0 0 (omega (arith, within, long))) in (
      λ there. (right place v low).0 (ap (λ vs. has vs v) before ∙ cut_has bits part v (sym (ap (λ vs. has vs v) after) ∙ there)),
      λ supported.
          let found : has (part_values candidate) v ≡ true =
          ap (λ vs. has vs v) (sym (values_at candidates place (omega (arith, within, many))) ∙ sym (sets_at table.width place (widened candidates) (omega (arith, narrow, many, length-map candidates wide_set)) low))
          ∙ supported_there table.rows sets place v supported in
          ap (λ vs. has vs v) after ∙ has_cut bits part candidate v (below place 0 (omega (arith, within, many))) found (sym (ap (λ vs. has vs v) before) ∙ (right place v low).1 supported),
    )
