-- From one-hot words to values.
use Rattle.std.proofs.Common.{pow_pos, ◌≡◌, ℕ, zero, suc, ◌+◌, ◌*◌, ◌<◌, ◌≤◌, ◌^◌, List, [], ◌∷◌, length, map, Bool, true, false, cond, not, ◌&&◌, refl, sym, ◌∙◌, ap, arith, subst, ⊎_elim}
use Rattle.std.specs.Prelude.{bit_and, count_by, nat_lt, ◌||◌, ◌==◌}
use Rattle.std.specs.Int.{bit_at, trailing_zeros, w64}
use Rattle.std.specs.Int.Bits.{and_comm}
use Rattle.std.specs.List.{All}
use Rattle.std.proofs.lemmas.Bool.{cases_lt, eq-eqb, ne_eqb, lt-ltb, and_right}
use Rattle.std.proofs.lemmas.Nat.{or_lt, pow_below}
use Rattle.std.proofs.lemmas.Nat.Bits.{bit_at-lt, bit_at_above, and_pow, bit_at_ones}
use Rattle.std.proofs.lemmas.List.Elements.{All-head, All-tail}
use Rattle.std.proofs.lemmas.List.Sums.{sum_by-cons}
use Rattle.std.proofs.Math.Bool.{and-true}
use Rattle.wf_model.specs.Lists.{has}
use Rattle.wf_model.specs.Box.{is_supported, is_alive, has_at}
use Rattle.wf_base.proofs.OfSet.Lemmas.{has-part_values, has_large, part_holds-or, part_holds-pow, holds_nothing}
use Rattle.wf_base.specs.Set.Parts.{part_holds, part_values}
use Rattle.wf_base.specs.Set.Sets.{values_in}
use Rattle.wf_lane.specs.Words.{Words, is_live, joined_words, meets}
use Rattle.wf_lane.specs.Table.{AreFirstParts, AreOneHot, IsFirstPart, IsOneHot, four_values, opened, row_of, sets_of, value_of}
use Rattle.wf_model.proofs.Lemmas.{has-filter, has_at-take}

test_bit : (b x : ℕ) → b < 2 → 0 < x → not (b * x == 0) ≡ (b == 1)
test_bit zero x h pos = ap not (eq-eqb (0 * x) 0 (omega arith))
test_bit (suc zero) x h pos = ap not (ne_eqb (1 * x) 0 (λ (e : 1 * x ≡ 0). absurd (omega arith)))
test_bit (suc (suc b)) x h pos = absurd (omega arith)

meets_holds : (w s : ℕ) → IsOneHot w → meets w s ≡ part_holds s (value_of w)
unfolding value_of
meets_holds w s h =
    let t = trailing_zeros w64 w in
    ap (λ x. not (bit_and x s == 0)) h.power ∙ ap (λ x. not (x == 0)) (and_comm (2 ^ t) s ∙ and_pow s t) ∙ test_bit (bit_at s t) (2 ^ t) (bit_at-lt s t) (pow_pos t)

pub word_holds : (w a : ℕ) → IsOneHot w → part_holds w a ≡ (value_of w == a)
unfolding value_of
word_holds w a h = ap (λ x. part_holds x a) h.power ∙ part_holds-pow (trailing_zeros w64 w) a

-- a word that fits has what it holds, whatever the value
has_any : (word v : ℕ) → word < 2 ^ 64 → has (part_values word) v ≡ part_holds word v
has_any word v fits =
    ⊎_elim (has-part_values word v)
    (λ (high : 64 ≤ v). has_large word v (λ low. absurd (omega (arith, high, low))) ∙ sym (ap (λ b. b == 1) (bit_at_above word 64 v fits high)))
    (cases_lt v 64)

-- ---- joined words fit

word_small : (word : ℕ) → IsOneHot word → word < 2 ^ 64
word_small word hot = subst (λ n. n < 2 ^ 64) (sym hot.power) (pow_below (trailing_zeros w64 word) 64 hot.small)

cond_small : (b : Bool) (word : ℕ) → word < 2 ^ 64 → cond b word 0 < 2 ^ 64
cond_small true word h = h
cond_small false word h = pow_pos 64

pub joined_small : (s : List ℕ) (w : Words → ℕ) → ((r : Words) → AreOneHot r → IsOneHot (w r)) → (rows : List Words) → All AreOneHot rows → joined_words s w rows < 2 ^ 64
joined_small s w one [] h = pow_pos 64
joined_small s w one (r ∷ rows) h = or_lt 64 (cond (is_live s r) (w r) 0) (joined_words s w rows) (cond_small (is_live s r) (w r) (word_small (w r) (one r (All-head AreOneHot r rows h)))) (joined_small s w one rows (All-tail AreOneHot r rows h))

-- ---- a row and its four words
pub value_small : (word : ℕ) → IsOneHot word → value_of word < 64
unfolding value_of
value_small word h = h.small

all_held : (v : ℕ) → v < 64 → part_holds 18446744073709551615 v ≡ true
all_held v h = ap (λ b. b == 1) (bit_at_ones 64 v h)

every_value : (word : ℕ) → IsOneHot word → meets word 18446744073709551615 ≡ true
every_value word h = meets_holds word 18446744073709551615 h ∙ all_held (value_of word) (value_small word h)

pub meets_list : (word set : ℕ) → IsOneHot word → meets word set ≡ has (part_values set) (value_of word)
meets_list word set h = meets_holds word set h ∙ sym (has-part_values set (value_of word) (value_small word h))

-- the first part of a set is all of it that a word can meet
meets_set : (word part : ℕ) (set : List ℕ) → IsOneHot word → IsFirstPart part set → meets word part ≡ has (values_in set) (value_of word)
meets_set word part set h first =
    meets_list word part h
    ∙ ap (λ vs. has vs (value_of word)) first
    ∙ has-filter (λ v. nat_lt v 64) (values_in set) (value_of word)
    ∙ ap (λ b. b && has (values_in set) (value_of word)) (lt-ltb (value_of word) 64 (value_small word h))

four : (p q r s : Bool) → (p && q && r && s) ≡ (p && (q && (r && s)))
four true true true s = refl
four true true false s = refl
four true false r s = refl
four false q r s = refl

same_four : (p q r s p' q' r' s' : Bool) → p ≡ p' → q ≡ q' → r ≡ r' → s ≡ s' → (p && q && r && s) ≡ (p' && (q' && (r' && s')))
same_four p q r s p' q' r' s' e f g h = four p q r s ∙ cc

-- a row is alive among the first parts where it is among the sets
live_is : (width : ℕ) (parts s0 s1 s2 s3 : List ℕ) (r : Words) → 1 ≤ width → width ≤ 4 → AreOneHot r → AreFirstParts parts (s0 ∷ s1 ∷ s2 ∷ s3 ∷ []) → is_live (opened width parts) r ≡ is_alive (sets_of width (s0 ∷ s1 ∷ s2 ∷ s3 ∷ [])) (row_of width r)
live_is zero parts s0 s1 s2 s3 r some narrow h f = absurd (omega arith)
live_is (suc zero) parts s0 s1 s2 s3 r some narrow h f =
    same_four _ _ _ _ _ true true true (meets_set r.first _ s0 h.first f.first) (every_value r.second h.second) (every_value r.third h.third) (every_value r.fourth h.fourth)
live_is (suc (suc zero)) parts s0 s1 s2 s3 r some narrow h f =
    same_four _ _ _ _ _ _ true true (meets_set r.first _ s0 h.first f.first) (meets_set r.second _ s1 h.second f.second) (every_value r.third h.third) (every_value r.fourth h.fourth)
live_is (suc (suc (suc zero))) parts s0 s1 s2 s3 r some narrow h f =
    same_four _ _ _ _ _ _ _ true (meets_set r.first _ s0 h.first f.first) (meets_set r.second _ s1 h.second f.second) (meets_set r.third _ s2 h.third f.third) (every_value r.fourth h.fourth)
live_is (suc (suc (suc (suc zero)))) parts s0 s1 s2 s3 r some narrow h f =
    same_four _ _ _ _ _ _ _ _ (meets_set r.first _ s0 h.first f.first) (meets_set r.second _ s1 h.second f.second) (meets_set r.third _ s2 h.third f.third) (meets_set r.fourth _ s3 h.fourth f.fourth ∙ sym (and-true (has (values_in s3) (value_of r.fourth))))
live_is (suc (suc (suc (suc (suc n))))) parts s0 s1 s2 s3 r some narrow h f = absurd (omega arith)

-- ---- the mask of one place
kept_holds : (b : Bool) (w a : ℕ) → IsOneHot w → part_holds (cond b w 0) a ≡ ((value_of w == a) && b)
kept_holds true w a h = word_holds w a h ∙ sym (and-true (value_of w == a))
kept_holds false w a h = holds_nothing a ∙ sym (and_right (value_of w == a) false refl)

module _ (width : ℕ) (parts : List ℕ) (s0 s1 s2 s3 : List ℕ) (some : 1 ≤ width) (narrow : width ≤ 4) (firsts : AreFirstParts parts (s0 ∷ s1 ∷ s2 ∷ s3 ∷ [])) where
  abbrev sets : List (List ℕ)
  sets = s0 ∷ s1 ∷ s2 ∷ s3 ∷ []

  mask_is : (w : Words → ℕ) (place v : ℕ) → ((r : Words) → AreOneHot r → IsOneHot (w r)) → ((r : Words) → has_at (row_of width r) place v ≡ (value_of (w r) == v)) → (rows : List Words) → All AreOneHot rows → part_holds (joined_words (opened width parts) w rows) v ≡ is_supported (map (row_of width) rows) (sets_of width sets) place v
  mask_is w place v one at [] h = holds_nothing v
  mask_is w place v one at (r ∷ rows) h =
      let hot = All-head AreOneHot r rows h in
      let alive = is_alive (sets_of width sets) (row_of width r) in
      part_holds-or (cond (is_live (opened width parts) r) (w r) 0) (joined_words (opened width parts) w rows) v
      ∙ ap (λ b. b || part_holds (joined_words (opened width parts) w rows) v)
      (ap (λ b. part_holds (cond b (w r) 0) v) (live_is width parts s0 s1 s2 s3 r some narrow hot firsts) ∙ kept_holds alive (w r) v (one r hot) ∙ ap (λ b. b && alive) (sym (at r)))
      ∙ ap (λ b. (has_at (row_of width r) place v && alive) || b) (mask_is w place v one at rows (All-tail AreOneHot r rows h))

  mask_values_are : (w : Words → ℕ) (place v : ℕ) → ((r : Words) → AreOneHot r → IsOneHot (w r)) → ((r : Words) → has_at (row_of width r) place v ≡ (value_of (w r) == v)) → (rows : List Words) → All AreOneHot rows → has (part_values (joined_words (opened width parts) w rows)) v ≡ is_supported (map (row_of width) rows) (sets_of width sets) place v
  mask_values_are w place v one at rows h = has_any (joined_words (opened width parts) w rows) v (joined_small (opened width parts) w one rows h) ∙ mask_is w place v one at rows h

  count_is : (rows : List Words) → All AreOneHot rows → count_by (is_live (opened width parts)) rows ≡ count_by (is_alive (sets_of width sets)) (map (row_of width) rows)
  count_is [] h = refl
  count_is (r ∷ rows) h =
      sum_by-cons (λ x. cond (is_live (opened width parts) x) 1 0) r rows
      ∙ ap (λ b. cond b 1 0 + count_by (is_live (opened width parts)) rows) (live_is width parts s0 s1 s2 s3 r some narrow (All-head AreOneHot r rows h) firsts)
      ∙ ap (λ n. cond (is_alive (sets_of width sets) (row_of width r)) 1 0 + n) (count_is rows (All-tail AreOneHot r rows h))
      ∙ sym (sum_by-cons (λ x. cond (is_alive (sets_of width sets) x) 1 0) (row_of width r) (map (row_of width) rows))

-- what is joined at each place below the width, and counted, over all rows
pub record Found (width : ℕ) (parts : List ℕ) (sets : List (List ℕ)) (rows : List Words) : Type 0 where
  pub first : (v : ℕ) → 0 < width → has (part_values (joined_words (opened width parts) (λ r. r.first) rows)) v ≡ is_supported (map (row_of width) rows) (sets_of width sets) 0 v
  pub second : (v : ℕ) → 1 < width → has (part_values (joined_words (opened width parts) (λ r. r.second) rows)) v ≡ is_supported (map (row_of width) rows) (sets_of width sets) 1 v
  pub third : (v : ℕ) → 2 < width → has (part_values (joined_words (opened width parts) (λ r. r.third) rows)) v ≡ is_supported (map (row_of width) rows) (sets_of width sets) 2 v
  pub fourth : (v : ℕ) → 3 < width → has (part_values (joined_words (opened width parts) (λ r. r.fourth) rows)) v ≡ is_supported (map (row_of width) rows) (sets_of width sets) 3 v
  pub alive : count_by (is_live (opened width parts)) rows ≡ count_by (is_alive (sets_of width sets)) (map (row_of width) rows)

pub found_in : (width : ℕ) (parts : List ℕ) (sets : List (List ℕ)) (rows : List Words) → 1 ≤ width → width ≤ 4 → length sets ≡ 4 → AreFirstParts parts sets → All AreOneHot rows → Found width parts sets rows
found_in width parts [] rows some narrow e f h = absurd (omega arith)
found_in width parts (s0 ∷ []) rows some narrow e f h = absurd (omega arith)
found_in width parts (s0 ∷ s1 ∷ []) rows some narrow e f h = absurd (omega arith)
found_in width parts (s0 ∷ s1 ∷ s2 ∷ []) rows some narrow e f h = absurd (omega arith)
found_in width parts (s0 ∷ s1 ∷ s2 ∷ s3 ∷ x ∷ ss) rows some narrow e f h = absurd (omega arith)
found_in width parts (s0 ∷ s1 ∷ s2 ∷ s3 ∷ []) rows some narrow e f h =
    record {
      first = λ v lt. mask_values_are width parts s0 s1 s2 s3 some narrow f (λ r. r.first) 0 v (λ r k. k.first) (λ r. has_at-take (four_values r) width 0 v lt) rows h;
      second = λ v lt. mask_values_are width parts s0 s1 s2 s3 some narrow f (λ r. r.second) 1 v (λ r k. k.second) (λ r. has_at-take (four_values r) width 1 v lt) rows h;
      third = λ v lt. mask_values_are width parts s0 s1 s2 s3 some narrow f (λ r. r.third) 2 v (λ r k. k.third) (λ r. has_at-take (four_values r) width 2 v lt) rows h;
      fourth = λ v lt. mask_values_are width parts s0 s1 s2 s3 some narrow f (λ r. r.fourth) 3 v (λ r k. k.fourth) (λ r. has_at-take (four_values r) width 3 v lt) rows h;
      alive = count_is width parts s0 s1 s2 s3 some narrow f rows h;
    }
