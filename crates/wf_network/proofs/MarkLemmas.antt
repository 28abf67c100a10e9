-- Bits of words.
use Rattle.std.proofs.Common.{◌≡◌, ◌≢◌, ℕ, zero, suc, ◌+◌, ◌-◌, ◌*◌, ◌/◌, ◌%◌, ◌<◌, ◌≤◌, ◌^◌, List, [], ◌∷◌, length, slice_index, replicate, refl, sym, ap, ◌∙◌, arith, inl, inr, pow-add, ⊎_elim, Option, Some, None, false, IfSome, IfNone}
use Rattle.std.specs.Option.{is_some}
use Rattle.std.specs.Int.{bit_at, trailing_zeros, w64}
use Rattle.std.specs.Int.Bits.{bit_or}
use Rattle.std.specs.List.{slice_set}
use Rattle.std.proofs.lemmas.List.{get_or-set_same, get_or-set_other, get_or-replicate}
use Rattle.std.proofs.Math.ListN.{length-set}
use Rattle.std.proofs.lemmas.Bool.{cases_eq, cases_lt, false≢true}
use Rattle.std.proofs.Math.Nat.{div-div-eq-div-mul, div-le_self}
use Rattle.std.proofs.lemmas.Nat.Bits.{bit_at-trailing_zeros, bit_at-zero, bit_at_ones, bit_at_above, bit_at-lt, bit_at_or}
use Rattle.std.proofs.lemmas.Nat.Bits.{bit_at_cat_high, bit_at_cat_low}
use Rattle.wf_network.specs.Marks.{bit_of, IsHalf, IsLast, IsMore, IsNext, KeepsBitsBut, MarksOnlyWord, MarksWord, TopsTell}
use Rattle.wf_network.specs.declared.users.MarkMask.{MarkMask}

-- two bits in one word are told apart by their places
pub other_place : (m n : ℕ) → m ≢ n → m / 64 ≡ n / 64 → m % 64 ≢ n % 64
other_place m n other same = λ e. other (omega (arith, same, e))

-- ---- a bit is set or taken away

pub bit_changed : (words : List ℕ) (bit word b : ℕ) → bit < 64 * length words → bit_at word (bit % 64) ≡ b → bit_of (slice_set words (bit / 64) word) bit ≡ b
bit_changed words bit word b within is = ap (λ w. bit_at w (bit % 64)) (get_or-set_same words (bit / 64) word 0 (omega (arith, within))) ∙ is

pub bit_kept : (words : List ℕ) (bit word n : ℕ) → bit < 64 * length words → n ≢ bit → ((i : ℕ) → i < 64 → i ≢ bit % 64 → bit_at word i ≡ bit_at (slice_index words (bit / 64)) i) → bit_of (slice_set words (bit / 64) word) n ≡ bit_of words n
bit_kept words bit word n within other same =
    elim (cases_eq (n / 64) (bit / 64)) [
      | inl here ↦
          ap (λ i. bit_at (slice_index (slice_set words (bit / 64) word) i) (n % 64)) here
          ∙ ap (λ w. bit_at w (n % 64)) (get_or-set_same words (bit / 64) word 0 (omega (arith, within)))
          ∙ same (n % 64) (omega arith) (other_place n bit other here)
          ∙ ap (λ i. bit_at (slice_index words i) (n % 64)) (sym here)
      | inr there ↦ ap (λ w. bit_at w (n % 64)) (get_or-set_other words (bit / 64) (n / 64) word 0 there)
    ]

-- the lower half of a word, and the upper one
pub low_half : (w : MarkMask) → w.word % 2 ≡ 0 → w.bits < 2 ^ 32 → IsHalf w w.bits
low_half w even fits = record {
  has = λ e has. ap (bit_at w.bits) (let same : e % 64 ≡ e % 32 = omega (arith, even, has.0) in same) ∙ has.1;
  only = λ e here set. elim (cases_lt (e % 64) 32) [
    | inl low ↦ (omega (arith, even, here, low), ap (bit_at w.bits) (let same : e % 32 ≡ e % 64 = omega (arith, low) in same) ∙ set)
    | inr high ↦ absurd (let none : ⊥ = omega (arith, set, bit_at_above w.bits 32 (e % 64) fits high) in none)
  ];
}

pub high_half : (w : MarkMask) → w.word % 2 ≡ 1 → IsHalf w (w.bits * 2 ^ 32 + 0)
high_half w odd = record {
  has = λ e has.
      let high : 32 ≤ e % 64 = omega (arith, odd, has.0) in
      bit_at_cat_high w.bits 32 0 (e % 64) (omega arith) high ∙ ap (bit_at w.bits) (let same : e % 64 - 32 ≡ e % 32 = omega (arith, high) in same) ∙ has.1;
  only = λ e here set. elim (cases_lt (e % 64) 32) [
    | inl low ↦ absurd (let none : ⊥ = omega (arith, set, bit_at_cat_low w.bits 32 0 (e % 64) low, bit_at-zero (e % 64)) in none)
    | inr high ↦ (omega (arith, odd, here, high), ap (bit_at w.bits) (let same : e % 32 ≡ e % 64 - 32 = omega (arith, high) in same) ∙ sym (bit_at_cat_high w.bits 32 0 (e % 64) (omega arith) high) ∙ set)
  ];
}

-- the bits of one half more
pub bits_marked : (words : List ℕ) (old half : ℕ) (w : MarkMask) → IsHalf w half → w.word < 2 * length words → MarksWord (slice_set words (w.word / 2) (bit_or old half)) w
bits_marked words old half w is within e has =
    let here : e / 64 ≡ w.word / 2 = omega (arith, has.0) in
    ap (λ i. bit_at (slice_index (slice_set words (w.word / 2) (bit_or old half)) i) (e % 64)) here
    ∙ ap (λ x. bit_at x (e % 64)) (get_or-set_same words (w.word / 2) (bit_or old half) 0 (omega (arith, within)))
    ∙ omega (arith, bit_at_or old half (e % 64), is.has e has, bit_at-lt old (e % 64))

pub bits_more : (words : List ℕ) (old half : ℕ) (w : MarkMask) → w.word < 2 * length words → old ≡ slice_index words (w.word / 2) → IsMore words (slice_set words (w.word / 2) (bit_or old half))
bits_more words old half w within is n none = elim (cases_eq (n / 64) (w.word / 2)) [
  | inl here ↦
      let now = ap (λ i. bit_at (slice_index (slice_set words (w.word / 2) (bit_or old half)) i) (n % 64)) here ∙ ap (λ x. bit_at x (n % 64)) (get_or-set_same words (w.word / 2) (bit_or old half) 0 (omega (arith, within))) in
      let was : bit_of words n ≡ bit_at old (n % 64) = ap (λ i. bit_at (slice_index words i) (n % 64)) here ∙ ap (λ x. bit_at x (n % 64)) (sym is) in
      omega (arith, was, now, none, bit_at_or old half (n % 64))
  | inr other ↦ sym (ap (λ x. bit_at x (n % 64)) (get_or-set_other words (w.word / 2) (n / 64) (bit_or old half) 0 other)) ∙ none
]

pub bits_only : (words : List ℕ) (old half : ℕ) (w : MarkMask) → IsHalf w half → w.word < 2 * length words → old ≡ slice_index words (w.word / 2) → MarksOnlyWord words w (slice_set words (w.word / 2) (bit_or old half))
bits_only words old half w half_is within is e set = elim (cases_eq (e / 64) (w.word / 2)) [
  | inl here ↦
      let now = ap (λ i. bit_at (slice_index (slice_set words (w.word / 2) (bit_or old half)) i) (e % 64)) here ∙ ap (λ x. bit_at x (e % 64)) (get_or-set_same words (w.word / 2) (bit_or old half) 0 (omega (arith, within))) in
      let was : bit_of words e ≡ bit_at old (e % 64) = ap (λ i. bit_at (slice_index words i) (e % 64)) here ∙ ap (λ x. bit_at x (e % 64)) (sym is) in
      let joined : bit_at (bit_or old half) (e % 64) ≡ 1 = sym now ∙ set in
      elim (cases_lt (bit_at old (e % 64)) 1) [
        | inl none ↦ inr (half_is.only e here (omega (arith, bit_at_or old half (e % 64), joined, none, bit_at-lt half (e % 64))))
        | inr one ↦ inl (omega (arith, was, one, bit_at-lt old (e % 64)))
      ]
  | inr other ↦ inl (sym (ap (λ x. bit_at x (e % 64)) (get_or-set_other words (w.word / 2) (e / 64) (bit_or old half) 0 other)) ∙ set)
]

-- ---- the first bit that is set

bit_of-shifted : (word k i : ℕ) → bit_at (word / 2 ^ k) i ≡ bit_at word (k + i)
bit_of-shifted word k i = ap (λ n. n % 2) (div-div-eq-div-mul word (2 ^ k) (2 ^ i) ∙ ap (λ n. word / n) (sym (pow-add 2 k i)))

-- the lowest bit of what is left of a word past some bits
pub next_here : (words : List ℕ) (from : ℕ) → from / 64 < length words → 0 < slice_index words (from / 64) / 2 ^ (from % 64) → slice_index words (from / 64) / 2 ^ (from % 64) < 2 ^ 64
    → trailing_zeros w64 (slice_index words (from / 64) / 2 ^ (from % 64)) + from % 64 < 64
    → IsNext words from (from + trailing_zeros w64 (slice_index words (from / 64) / 2 ^ (from % 64)))
next_here words from within some fits low =
    let here = slice_index words (from / 64) / 2 ^ (from % 64) in
    let z = trailing_zeros w64 here in
    let found = bit_at-trailing_zeros w64 here some fits in
    record {
      after = omega arith;
      within = omega (arith, within, low);
      there = bit_there z low ∙ found.1;
      first = λ m after before. before_z m after before found.2;
    }
  where
    bit_there : (z : ℕ) → z + from % 64 < 64 → bit_of words (from + z) ≡ bit_at (slice_index words (from / 64) / 2 ^ (from % 64)) z
    bit_there z low =
        let i : (from + z) / 64 ≡ from / 64 = omega (arith, low) in
        let j : (from + z) % 64 ≡ from % 64 + z = omega (arith, low) in
        (λ k. bit_at (slice_index words (i k)) (j k)) ∙ sym (bit_of-shifted (slice_index words (from / 64)) (from % 64) z)

    before_z : (m : ℕ) → from ≤ m → m < from + trailing_zeros w64 (slice_index words (from / 64) / 2 ^ (from % 64)) → ((i : ℕ) → i < trailing_zeros w64 (slice_index words (from / 64) / 2 ^ (from % 64)) → bit_at (slice_index words (from / 64) / 2 ^ (from % 64)) i ≡ 0) → bit_of words m ≡ 0
    before_z m after before lower =
        let e : from + (m - from) ≡ m = omega (arith, after) in
        ap (bit_of words) (sym e) ∙ bit_there (m - from) (omega (arith, before, low, after)) ∙ lower (m - from) (omega (arith, before, after))

-- nothing is left of this word past some bits
pub none_here : (words : List ℕ) (from m : ℕ) → slice_index words (from / 64) / 2 ^ (from % 64) ≡ 0 → from ≤ m → m / 64 ≡ from / 64 → bit_of words m ≡ 0
none_here words from m none after same =
    let j : m % 64 ≡ from % 64 + (m - from) = omega (arith, after, same) in
    (λ k. bit_at (slice_index words (same k)) (j k)) ∙ sym (bit_of-shifted (slice_index words (from / 64)) (from % 64) (m - from)) ∙ ap (λ w. bit_at w (m - from)) none ∙ bit_at-zero (m - from)

past_end : (words : List ℕ) (i : ℕ) → length words ≤ i → slice_index words i ≡ 0
past_end [] i past = refl
past_end (w ∷ words) zero past = absurd (let none : ⊥ = omega (arith, past) in none)
past_end (w ∷ words) (suc i) past = past_end words i (omega (arith, past))

pub none_past : (words : List ℕ) (from m : ℕ) → length words ≤ from / 64 → from ≤ m → bit_of words m ≡ 0
none_past words from m past after = ap (λ w. bit_at w (m % 64)) (past_end words (m / 64) (omega (arith, past, after))) ∙ bit_at-zero (m % 64)

-- the shift leaves room for its distance
pub shift_low : (word k : ℕ) → k < 64 → word < 2 ^ 64 → 0 < word / 2 ^ k → trailing_zeros w64 (word / 2 ^ k) + k < 64
shift_low word k small fits some =
    let found = bit_at-trailing_zeros w64 (word / 2 ^ k) some fits' in
    low (trailing_zeros w64 (word / 2 ^ k)) (sym (bit_of-shifted word k (trailing_zeros w64 (word / 2 ^ k))) ∙ found.1)
  where
    fits' : word / 2 ^ k < 2 ^ 64
    fits' = omega (arith, fits, div-le_self word (2 ^ k))

    low : (z : ℕ) → bit_at word (k + z) ≡ 1 → z + k < 64
    low z is = ⊎_elim (λ (within : k + z < 64). omega (arith, within)) (λ (past : 64 ≤ k + z). absurd (let none : ⊥ = omega (arith, is, bit_at_above word 64 (k + z) fits past) in none)) (cases_lt (k + z) 64)

-- all bits of these words are set
pub all_set : (count n : ℕ) → n < 64 * count → bit_of (replicate count (2 ^ 64 - 1)) n ≡ 1
all_set count n low = ap (λ w. bit_at w (n % 64)) (get_or-replicate count (n / 64) (2 ^ 64 - 1) 0 (omega (arith, low))) ∙ bit_at_ones 64 (n % 64) (omega arith)

-- the same without a word in between
pub found_none : (P : Type 0) (o : Option ℕ) → is_some o ≡ false → IfNone o P → P
found_none P None without is = is
found_none P (Some n) without is = absurd (false≢true (sym without))

-- so far no bit is set, and neither in the word that comes next
pub none_further : (words : List ℕ) (start from : ℕ) → ((m : ℕ) → start ≤ m → m < from → bit_of words m ≡ 0) → ((m : ℕ) → from ≤ m → m / 64 ≡ from / 64 → bit_of words m ≡ 0) → (m : ℕ) → start ≤ m → m < (from / 64 + 1) * 64 → bit_of words m ≡ 0
none_further words start from before here m after low =
    ⊎_elim (λ (earlier : m < from). before m after earlier) (λ (later : from ≤ m). here m later (omega (arith, later, low))) (cases_lt m from)

-- nor in those that the tops tell of
pub none_until : (words tops : List ℕ) (start from top : ℕ) → length words ≤ 64 * length tops → TopsTell words tops → ((m : ℕ) → start ≤ m → m < from → bit_of words m ≡ 0) → ((m : ℕ) → from ≤ m → m / 64 ≡ from / 64 → bit_of words m ≡ 0)
    → ((i : ℕ) → from / 64 + 1 ≤ i → i < top → bit_of tops i ≡ 0) → (m : ℕ) → start ≤ m → m < 64 * top → bit_of words m ≡ 0
none_until words tops start from top within tell before here above m after low =
    ⊎_elim (λ (earlier : m < (from / 64 + 1) * 64). none_further words start from before here m after earlier)
    (λ (later : (from / 64 + 1) * 64 ≤ m).
    ⊎_elim (λ (inside : m / 64 < length words). ap (λ w. bit_at w (m % 64)) (tell (m / 64) inside (above (m / 64) (omega (arith, later)) (omega (arith, low)))) ∙ bit_at-zero (m % 64))
    (λ (outside : length words ≤ m / 64). none_past words m m outside (omega arith)) (cases_lt (m / 64) (length words)))
    (cases_lt m ((from / 64 + 1) * 64))

-- the next bit, from further back on
pub next_from : (words : List ℕ) (start from n : ℕ) → start ≤ from → ((m : ℕ) → start ≤ m → m < from → bit_of words m ≡ 0) → IsNext words from n → IsNext words start n
next_from words start from n low before next = record {
  after = omega (arith, low, next.after);
  within = next.within;
  there = next.there;
  first = λ m after early. ⊎_elim (λ (earlier : m < from). before m after earlier) (λ (later : from ≤ m). next.first m later early) (cases_lt m from);
}

pub if_next_from : (words : List ℕ) (start from : ℕ) (o : Option ℕ) → start ≤ from → ((m : ℕ) → start ≤ m → m < from → bit_of words m ≡ 0) → IfSome o (IsNext words from) → IfSome o (IsNext words start)
if_next_from words start from None low before next = next
if_next_from words start from (Some n) low before next = next_from words start from n low before next

-- past the last word there is none
pub last_from : (words : List ℕ) (start from : ℕ) → ((m : ℕ) → start ≤ m → m < from → bit_of words m ≡ 0) → length words ≤ from / 64 → IsLast words start
last_from words start from before past m after = ⊎_elim (λ (earlier : m < from). before m after earlier) (λ (later : from ≤ m). none_past words from m past later) (cases_lt m from)

-- nor is there one that the tops tell of
pub none_after : (words tops : List ℕ) (start from : ℕ) → length words ≤ 64 * length tops → TopsTell words tops → ((m : ℕ) → start ≤ m → m < from → bit_of words m ≡ 0) → ((m : ℕ) → from ≤ m → m / 64 ≡ from / 64 → bit_of words m ≡ 0)
    → IsLast tops (from / 64 + 1) → IsLast words start
none_after words tops start from within tell before here last m after = none_until words tops start from (m / 64 + 1) within tell before here (λ i past low. last i past) m after (omega arith)

pub if_none : (P : Type 0) (o : Option ℕ) → P → IfNone o P
if_none P None h = h
if_none P (Some n) h = tt

-- ---- a word is taken away

-- and its bit of the tops
pub tells_less : (words tops less : List ℕ) (n : ℕ) → TopsTell words tops → KeepsBitsBut tops less n → TopsTell (slice_set words n 0) less
tells_less words tops less n tell same i within none = elim (cases_eq i n) [
  | inl here ↦ ap (slice_index (slice_set words n 0)) here ∙ get_or-set_same words n 0 0 (omega (arith, within, here, length-set {A = ℕ}))
  | inr other ↦ get_or-set_other words n i 0 0 other ∙ tell i (omega (arith, within, length-set {A = ℕ})) (sym (same i other) ∙ none)
]

-- then it is 0, and so is each before it of which the tops do not tell
pub cleared_more : (words tops : List ℕ) (from n : ℕ) → TopsTell words tops → n < length words → ((i : ℕ) → i < from → slice_index words i ≡ 0) → ((i : ℕ) → from ≤ i → i < n → bit_of tops i ≡ 0)
    → (i : ℕ) → i < n + 1 → slice_index (slice_set words n 0) i ≡ 0
cleared_more words tops from n tell within before none i low = elim (cases_eq i n) [
  | inl here ↦ ap (slice_index (slice_set words n 0)) here ∙ get_or-set_same words n 0 0 within
  | inr other ↦
      get_or-set_other words n i 0 0 other
      ∙ ⊎_elim (λ (early : i < from). before i early) (λ (late : from ≤ i). tell i (omega (arith, low, within)) (none i late (omega (arith, low, other)))) (cases_lt i from)
]

-- all are 0 where the tops tell of none from there on
pub all_cleared : (words tops : List ℕ) (from end : ℕ) → TopsTell words tops → length words ≤ end → ((i : ℕ) → i < from → slice_index words i ≡ 0) → ((i : ℕ) → from ≤ i → i < end → bit_of tops i ≡ 0) → IsLast words 0
all_cleared words tops from end tell past before none m after = ap (λ w. bit_at w (m % 64)) (each (m / 64)) ∙ bit_at-zero (m % 64)
  where
    each : (i : ℕ) → slice_index words i ≡ 0
    each i = ⊎_elim (λ (early : i < from). before i early) (λ (late : from ≤ i). ⊎_elim (λ (inside : i < length words). tell i inside (none i late (omega (arith, inside, past)))) (λ (outside : length words ≤ i). past_end words i outside) (cases_lt i (length words))) (cases_lt i from)

-- ---- loops over words end

pub further_word : (count from next : ℕ) → from / 64 < count → from / 64 + 1 ≤ next → 64 * count - 64 * next < 64 * count - from
further_word count from next within after = omega arith

pub further : (count left from next : ℕ) → left ≡ count → from ≤ next → next < count → left - (next + 1) < count - from
further count left from next same after within = omega arith
