-- Laws of sets: four words beside the ascending list of their values.
use Rattle.std.proofs.Common.{◌≡◌, ℕ, zero, suc, ◌+◌, ◌*◌, ◌/◌, ◌%◌, ◌<◌, ◌≤◌, List, [], ◌∷◌, ◌++◌, map, length, Bool, true, false, cond, not, ◌&&◌, refl, sym, ◌∙◌, ap, arith, ⊎_elim, eqb-true, subst}
use Rattle.std.specs.Prelude.{bit_or, get_or, nat_lt, ◌==◌, ◌||◌}
use Rattle.std.specs.List.{filter, range_with_len, All}
use Rattle.std.proofs.Math.Bool.{and-true}
use Rattle.std.proofs.lemmas.Bool.{cases_eq, cases_lt, eq-eqb, ne_eqb, lt-ltb, le-ltb}
use Rattle.std.proofs.lemmas.List.{length-append, length-map}
use Rattle.std.proofs.lemmas.List.Elements.{All-filter, All-weaker, filter-append}
use Rattle.std.proofs.lemmas.List.Folds.{list_any_none}
use Rattle.std.proofs.lemmas.Map.Views.{any-filter_same}
use Rattle.wf_model.specs.Lists.{below, has}
use Rattle.wf_model.proofs.Lemmas.{Ascends, ascends_filter, and_turned, or_none, has-filter}
use Rattle.wf_base.specs.Set.Parts.{part_holds, part_values}
use Rattle.wf_base.specs.Set.Sets.{holds, values_in}
use Rattle.wf_base.proofs.OfSet.PartLaws.{by_two, part_holds-or, has-part_values, holds_nothing, in_below, in_run, run_agrees, run_ascends, run_of_none, values_of_nothing as values_of_no_part}

-- ---- a set's words, one after another

abbrev pub part_of : List ℕ → ℕ → ℕ
part_of set k = get_or set k 0

-- a run of numbers in two parts
run_split : (a n m : ℕ) → range_with_len a (n + m) ≡ range_with_len a n ++ range_with_len (a + n) m
run_split a zero m = ap (λ n. range_with_len a n) (let none : 0 + m ≡ m = omega arith in none) ∙ ap (λ b. range_with_len b m) (let same : a ≡ a + 0 = omega arith in same)
run_split a (suc n) m =
    ap (λ k. range_with_len a k) (let more : suc n + m ≡ suc (n + m) = omega arith in more)
    ∙ ap (λ ns. a ∷ ns) (run_split (a + 1) n m ∙ ap (λ b. range_with_len (a + 1) n ++ range_with_len b m) (let same : a + 1 + n ≡ a + suc n = omega arith in same))

kept_from : (f : ℕ → ℕ) (b : Bool) (x : ℕ) (xs : List ℕ) → cond b (f x ∷ map f xs) (map f xs) ≡ map f (cond b (x ∷ xs) xs)
kept_from f true x xs = refl
kept_from f false x xs = refl

-- what a test keeps of a run that starts later
later_run : (p : ℕ → Bool) (c a n : ℕ) → filter p (range_with_len (c + a) n) ≡ map (λ v. c + v) (filter (λ v. p (c + v)) (range_with_len a n))
later_run p c a zero = refl
later_run p c a (suc n) =
    let next : c + a + 1 ≡ c + (a + 1) = omega arith in
    ap (λ xs. cond (p (c + a)) ((c + a) ∷ xs) xs) (ap (λ b. filter p (range_with_len b n)) next ∙ later_run p c (a + 1) n)
    ∙ kept_from (λ v. c + v) (p (c + a)) a (filter (λ v. p (c + v)) (range_with_len (a + 1) n))

-- the values of the word at a place
abbrev pub placed : List ℕ → ℕ → List ℕ
placed set k = map (λ v. 64 * k + v) (part_values (part_of set k))

-- the values of one of the words, moved to its place
part_at : (set : List ℕ) (k : ℕ) → filter (holds set) (range_with_len (64 * k + 0) 64) ≡ placed set k
unfolding part_values
part_at set k =
    later_run (holds set) (64 * k) 0 64
    ∙ ap (map (λ v. 64 * k + v)) (run_agrees (λ v. holds set (64 * k + v)) (part_holds (part_of set k)) 0 64
    (λ v low high. ap (λ j. part_holds (part_of set j) ((64 * k + v) % 64)) (let word : (64 * k + v) / 64 ≡ k = omega (arith, high) in word)
    ∙ ap (part_holds (part_of set k)) (let bit : (64 * k + v) % 64 ≡ v = omega (arith, high) in bit)))

-- the values of four words, each moved to its place
abbrev pub joined : List ℕ → List ℕ → List ℕ → List ℕ → List ℕ
joined a b c d = map (λ v. 64 * 0 + v) a ++ (map (λ v. 64 * 1 + v) b ++ (map (λ v. 64 * 2 + v) c ++ map (λ v. 64 * 3 + v) d))

abbrev pub parts_from : List ℕ → List ℕ
parts_from set = joined (part_values (part_of set 0)) (part_values (part_of set 1)) (part_values (part_of set 2)) (part_values (part_of set 3))

joined_parts : (p : ℕ → Bool) (a b c d : List ℕ) → filter p (a ++ (b ++ (c ++ d))) ≡ filter p a ++ (filter p b ++ (filter p c ++ filter p d))
joined_parts p a b c d =
    filter-append p a (b ++ (c ++ d)) ∙ ap (λ xs. filter p a ++ xs) (filter-append p b (c ++ d) ∙ ap (λ xs. filter p b ++ xs) (filter-append p c d))

same_four : {a b c d e f g h : List ℕ} → a ≡ e → b ≡ f → c ≡ g → d ≡ h → a ++ (b ++ (c ++ d)) ≡ e ++ (f ++ (g ++ h))
same_four p q r s = cc

run_of_four : below 256 ≡ range_with_len 0 64 ++ (range_with_len 64 64 ++ (range_with_len 128 64 ++ range_with_len 192 64))
run_of_four =
    run_split 0 64 192 ∙ ap (λ xs. range_with_len 0 64 ++ xs) (run_split 64 64 128 ∙ ap (λ xs. range_with_len 64 64 ++ xs) (run_split 128 64 64))

-- the values of a set are those of its four words
pub four_parts : (set : List ℕ) → values_in set ≡ parts_from set
unfolding values_in
four_parts set =
    ap (filter (holds set)) run_of_four
    ∙ joined_parts (holds set) (range_with_len 0 64) (range_with_len 64 64) (range_with_len 128 64) (range_with_len 192 64)
    ∙ same_four (part_at set 0) (part_at set 1) (part_at set 2) (part_at set 3)

-- ---- a set and its values

-- a value is in the list where its bit is set
pub has-values_in : (set : List ℕ) (v : ℕ) → v < 256 → has (values_in set) v ≡ holds set v
unfolding values_in
has-values_in set v h =
    any-filter_same (λ y. y == v) (holds set) (holds set v) (λ k e. ap (holds set) (eqb-true k v e)) (below 256)
    ∙ ap (λ b. holds set v && b) (in_below 256 v h) ∙ and-true (holds set v)

-- a set that holds those values of another that pass a test
pub values-filter : (set other : List ℕ) (p : ℕ → Bool) → ((v : ℕ) → v < 256 → holds other v ≡ (holds set v && p v)) → values_in other ≡ filter p (values_in set)
unfolding values_in
values-filter set other p same =
    run_agrees (holds other) (λ v. holds set v && p v) 0 256 (λ v low high. same v (omega (arith, high))) ∙ sym (by_two p (holds set) (below 256))

pub values_of_nothing : values_in (0 ∷ 0 ∷ 0 ∷ 0 ∷ []) ≡ []
unfolding values_in
values_of_nothing =
    run_agrees (holds (0 ∷ 0 ∷ 0 ∷ 0 ∷ [])) (λ v. false) 0 256 (λ v low high. no_word (v / 64) (v % 64)) ∙ run_of_none 0 256
  where
    no_word : (k u : ℕ) → part_holds (part_of (0 ∷ 0 ∷ 0 ∷ 0 ∷ []) k) u ≡ false
    no_word zero u = holds_nothing u
    no_word (suc zero) u = holds_nothing u
    no_word (suc (suc zero)) u = holds_nothing u
    no_word (suc (suc (suc zero))) u = holds_nothing u
    no_word (suc (suc (suc (suc k)))) u = holds_nothing u

pub values_small : (set : List ℕ) → All (λ v. v < 256) (values_in set)
unfolding values_in
values_small set = All-filter (holds set) (λ v. v < 256) (below 256) (in_run 0 256)

pub values_ascend : (set : List ℕ) → Ascends (values_in set)
unfolding values_in
values_ascend set = ascends_filter (holds set) (below 256) (run_ascends 0 256)

-- ---- tests that keep some values

-- a word that has those values of another that pass a test
part_passes : (word other : ℕ) (p : ℕ → Bool) → part_values other ≡ filter p (part_values word) → (u : ℕ) → u < 64 → part_holds other u ≡ (p u && part_holds word u)
part_passes word other p same u small =
    sym (has-part_values other u small) ∙ ap (λ xs. has xs u) same ∙ has-filter p (part_values word) u ∙ ap (λ b. p u && b) (has-part_values word u small)

pub in_four : (P : ℕ → Type 0) → P 0 → P 1 → P 2 → P 3 → (k : ℕ) → k < 4 → P k
in_four P a b c d zero h = a
in_four P a b c d (suc zero) h = b
in_four P a b c d (suc (suc zero)) h = c
in_four P a b c d (suc (suc (suc zero))) h = d
in_four P a b c d (suc (suc (suc (suc k)))) h = absurd (omega (arith, h))

word_there : (v : ℕ) → v < 256 → v / 64 < 4
word_there v h = omega (arith, h)

bit_there : (v : ℕ) → v % 64 < 64
bit_there v = omega arith

-- the words that two sets have at a place, and there the values that the
-- first has and the other keeps by its word
abbrev pub IsKeptBy : (ℕ → ℕ → Bool) → List ℕ → List ℕ → List ℕ → ℕ → Type 0
IsKeptBy keeps set other kept k = part_values (part_of kept k) ≡ filter (keeps (part_of other k)) (part_values (part_of set k))

-- word by word, what is kept is kept of the whole set
kept_by_words : (keeps : ℕ → ℕ → Bool) (p : ℕ → Bool) (set other kept : List ℕ) → ((v : ℕ) → v < 256 → p v ≡ keeps (part_of other (v / 64)) (v % 64)) → ((k : ℕ) → k < 4 → IsKeptBy keeps set other kept k) → values_in kept ≡ filter p (values_in set)
kept_by_words keeps p set other kept by each =
    values-filter set kept p
    (λ v small. part_passes (part_of set (v / 64)) (part_of kept (v / 64)) (keeps (part_of other (v / 64))) (each (v / 64) (word_there v small)) (v % 64) (bit_there v)
    ∙ and_turned (keeps (part_of other (v / 64)) (v % 64)) (holds set v) ∙ ap (λ b. holds set v && b) (sym (by v small)))

pub other_has : (other : List ℕ) (v : ℕ) → v < 256 → has (values_in other) v ≡ has (part_values (part_of other (v / 64))) (v % 64)
other_has other v small = has-values_in other v small ∙ sym (has-part_values (part_of other (v / 64)) (v % 64) (bit_there v))

-- four words that keep the values of the other's words
pub values_met : (set other kept : List ℕ) → ((k : ℕ) → k < 4 → part_values (part_of kept k) ≡ filter (has (part_values (part_of other k))) (part_values (part_of set k))) → values_in kept ≡ filter (has (values_in other)) (values_in set)
values_met set other kept each = kept_by_words (λ word v. has (part_values word) v) (has (values_in other)) set other kept (other_has other) each

-- four words that lose them
pub values_lacked : (set other kept : List ℕ) → ((k : ℕ) → k < 4 → part_values (part_of kept k) ≡ filter (λ v. not (has (part_values (part_of other k)) v)) (part_values (part_of set k))) → values_in kept ≡ filter (λ v. not (has (values_in other) v)) (values_in set)
values_lacked set other kept each =
    kept_by_words (λ word v. not (has (part_values word) v)) (λ v. not (has (values_in other) v)) set other kept (λ v small. ap not (other_has other v small)) each

-- ---- how many

pub length-values_in : (set : List ℕ) → length (values_in set) ≡ length (part_values (part_of set 0)) + length (part_values (part_of set 1)) + length (part_values (part_of set 2)) + length (part_values (part_of set 3))
length-values_in set =
    let a = part_values (part_of set 0) in
    let b = part_values (part_of set 1) in
    let c = part_values (part_of set 2) in
    let d = part_values (part_of set 3) in
    let all = ap length (four_parts set) in
    let first = length-append (map (λ v. 64 * 0 + v) a) (map (λ v. 64 * 1 + v) b ++ (map (λ v. 64 * 2 + v) c ++ map (λ v. 64 * 3 + v) d)) in
    let second = length-append (map (λ v. 64 * 1 + v) b) (map (λ v. 64 * 2 + v) c ++ map (λ v. 64 * 3 + v) d) in
    let third = length-append (map (λ v. 64 * 2 + v) c) (map (λ v. 64 * 3 + v) d) in
    omega (arith, all, first, second, third, length-map a (λ v. 64 * 0 + v), length-map b (λ v. 64 * 1 + v), length-map c (λ v. 64 * 2 + v), length-map d (λ v. 64 * 3 + v))

none_in_both : (a b : ℕ) → ((a == 0) && (b == 0)) ≡ (a + b == 0)
none_in_both zero b = ap (λ n. n == 0) (let same : b ≡ 0 + b = omega arith in same)
none_in_both (suc a) b = ap (λ t. t && (b == 0)) (ne_eqb (suc a) 0 (λ e. absurd (omega (arith, e)))) ∙ sym (ne_eqb (suc a + b) 0 (λ e. absurd (omega (arith, e))))

none_in_all : (a b c d : ℕ) → ((((a == 0) && (b == 0)) && (c == 0)) && (d == 0)) ≡ (a + b + c + d == 0)
none_in_all a b c d =
    ap (λ t. (t && (c == 0)) && (d == 0)) (none_in_both a b) ∙ ap (λ t. t && (d == 0)) (none_in_both (a + b) c) ∙ none_in_both (a + b + c) d

-- no value in any word
pub none_in_words : (set : List ℕ) → ((((length (part_values (part_of set 0)) == 0) && (length (part_values (part_of set 1)) == 0)) && (length (part_values (part_of set 2)) == 0)) && (length (part_values (part_of set 3)) == 0)) ≡ (length (values_in set) == 0)
none_in_words set =
    none_in_all (length (part_values (part_of set 0))) (length (part_values (part_of set 1))) (length (part_values (part_of set 2))) (length (part_values (part_of set 3)))
    ∙ ap (λ n. n == 0) (sym (length-values_in set))

-- ---- the least value

same_joined : {a b c d e f g h : List ℕ} → a ≡ e → b ≡ f → c ≡ g → d ≡ h → joined a b c d ≡ joined e f g h
same_joined p q r s = cc

no_values : part_values 0 ≡ []
no_values = values_of_no_part

-- the least value lies in the first word
pub least_in_first : (set : List ℕ) (v rest : ℕ) → part_values (part_of set 0) ≡ v ∷ part_values rest → values_in set ≡ v ∷ values_in (rest ∷ part_of set 1 ∷ part_of set 2 ∷ part_of set 3 ∷ [])
least_in_first set v rest at =
    four_parts set
    ∙ same_joined at refl refl refl
    ∙ ap (λ n. n ∷ joined (part_values rest) (part_values (part_of set 1)) (part_values (part_of set 2)) (part_values (part_of set 3))) (let same : 64 * 0 + v ≡ v = omega arith in same)
    ∙ ap (λ vs. v ∷ vs) (sym (four_parts (rest ∷ part_of set 1 ∷ part_of set 2 ∷ part_of set 3 ∷ [])))

-- in the second
pub least_in_second : (set : List ℕ) (v rest : ℕ) → part_values (part_of set 0) ≡ [] → part_values (part_of set 1) ≡ v ∷ part_values rest → values_in set ≡ (64 + v) ∷ values_in (0 ∷ rest ∷ part_of set 2 ∷ part_of set 3 ∷ [])
least_in_second set v rest none at =
    four_parts set
    ∙ same_joined none at refl refl
    ∙ ap (λ vs. (64 + v) ∷ vs) (same_joined (sym no_values) refl refl refl ∙ sym (four_parts (0 ∷ rest ∷ part_of set 2 ∷ part_of set 3 ∷ [])))

-- in the third
pub least_in_third : (set : List ℕ) (v rest : ℕ) → part_values (part_of set 0) ≡ [] → part_values (part_of set 1) ≡ [] → part_values (part_of set 2) ≡ v ∷ part_values rest → values_in set ≡ (128 + v) ∷ values_in (0 ∷ 0 ∷ rest ∷ part_of set 3 ∷ [])
least_in_third set v rest none no_more at =
    four_parts set
    ∙ same_joined none no_more at refl
    ∙ ap (λ vs. (128 + v) ∷ vs) (same_joined (sym no_values) (sym no_values) refl refl ∙ sym (four_parts (0 ∷ 0 ∷ rest ∷ part_of set 3 ∷ [])))

-- in the last
pub least_in_fourth : (set : List ℕ) (v rest : ℕ) → part_values (part_of set 0) ≡ [] → part_values (part_of set 1) ≡ [] → part_values (part_of set 2) ≡ [] → part_values (part_of set 3) ≡ v ∷ part_values rest → values_in set ≡ (192 + v) ∷ values_in (0 ∷ 0 ∷ 0 ∷ rest ∷ [])
least_in_fourth set v rest none no_more nor_here at =
    four_parts set
    ∙ same_joined none no_more nor_here at
    ∙ ap (λ vs. (192 + v) ∷ vs) (same_joined (sym no_values) (sym no_values) (sym no_values) refl ∙ sym (four_parts (0 ∷ 0 ∷ 0 ∷ rest ∷ [])))

-- nowhere
pub least_nowhere : (set : List ℕ) → part_values (part_of set 0) ≡ [] → part_values (part_of set 1) ≡ [] → part_values (part_of set 2) ≡ [] → part_values (part_of set 3) ≡ [] → values_in set ≡ []
least_nowhere set none no_more nor_here empty = four_parts set ∙ same_joined none no_more nor_here empty

-- ---- one word alone

pub values_of_part : (word : ℕ) → values_in (word ∷ 0 ∷ 0 ∷ 0 ∷ []) ≡ part_values word
values_of_part word = four_parts (word ∷ 0 ∷ 0 ∷ 0 ∷ []) ∙ same_joined refl no_values no_values no_values ∙ unmoved (part_values word)
  where
    unmoved : (xs : List ℕ) → joined xs [] [] [] ≡ xs
    unmoved [] = refl
    unmoved (x ∷ xs) = ap (λ n. n ∷ joined xs [] [] []) (let same : 64 * 0 + x ≡ x = omega arith in same) ∙ ap (λ ys. x ∷ ys) (unmoved xs)

-- ---- one value

-- no set has a value past the limit
pub too_large : (set : List ℕ) (v : ℕ) → 256 ≤ v → has (values_in set) v ≡ false
too_large set v large = list_any_none (λ y. y == v) (values_in set) (All-weaker (λ y. y < 256) (λ y. (y == v) ≡ false) (λ y h. ne_eqb y v (λ e. absurd (omega (arith, h, large, e)))) (values_in set) (values_small set))

-- a value is at a place and a bit
is_value : (v value : ℕ) → v / 64 ≡ value / 64 → (v == value) ≡ (v % 64 == value % 64)
is_value v value same =
    ⊎_elim
    (λ (e : v ≡ value). eq-eqb v value e ∙ sym (eq-eqb (v % 64) (value % 64) (ap (λ n. n % 64) e)))
    (λ (ne : v ≡ value → ⊥). ne_eqb v value ne ∙ sym (ne_eqb (v % 64) (value % 64) (λ e. ne (omega (arith, e, same)))))
    (cases_eq v value)

other_value : (v value : ℕ) → (v / 64 ≡ value / 64 → ⊥) → (v == value) ≡ false
other_value v value ne = ne_eqb v value (λ e. ne (ap (λ n. n / 64) e))

-- a set whose word of a value lacks it, and whose other words are the same
one_lost : (set kept : List ℕ) (value : ℕ) → part_values (part_of kept (value / 64)) ≡ filter (λ v. not (v == value % 64)) (part_values (part_of set (value / 64))) → ((j : ℕ) → j < 4 → (j ≡ value / 64 → ⊥) → part_of kept j ≡ part_of set j) → values_in kept ≡ filter (λ v. not (v == value)) (values_in set)
one_lost set kept value at others =
    values-filter set kept (λ v. not (v == value))
    (λ v small. ⊎_elim
    (λ (e : v / 64 ≡ value / 64).
    ap (λ k. part_holds (part_of kept k) (v % 64)) e
    ∙ part_passes (part_of set (value / 64)) (part_of kept (value / 64)) (λ u. not (u == value % 64)) at (v % 64) (bit_there v)
    ∙ and_turned (not (v % 64 == value % 64)) (part_holds (part_of set (value / 64)) (v % 64))
    ∙ ap (λ k. part_holds (part_of set k) (v % 64) && not (v % 64 == value % 64)) (sym e)
    ∙ ap (λ b. holds set v && not b) (sym (is_value v value e)))
    (λ (ne : v / 64 ≡ value / 64 → ⊥).
    ap (λ w. part_holds w (v % 64)) (others (v / 64) (word_there v small) ne)
    ∙ sym (and-true (holds set v)) ∙ ap (λ b. holds set v && not b) (sym (other_value v value ne)))
    (cases_eq (v / 64) (value / 64)))

-- a set whose word of a value has it too, and whose other words are the same
one_added : (set more : List ℕ) (value bit : ℕ) → value < 256 → part_values bit ≡ value % 64 ∷ [] → part_of more (value / 64) ≡ bit_or (part_of set (value / 64)) bit → ((j : ℕ) → j < 4 → (j ≡ value / 64 → ⊥) → part_of more j ≡ part_of set j) → (v : ℕ) → has (values_in more) v ≡ (has (values_in set) v || value == v)
one_added set more value bit few one at others v =
    ⊎_elim
    (λ (small : v < 256).
    has-values_in more v small ∙ within small ∙ ap (λ b. b || value == v) (sym (has-values_in set v small)))
    (λ (large : 256 ≤ v).
    too_large more v large ∙ sym (ap (λ b. b || value == v) (too_large set v large) ∙ ne_eqb value v (λ e. absurd (omega (arith, e, few, large)))))
    (cases_lt v 256)
  where
    bit_is : (u : ℕ) → u < 64 → part_holds bit u ≡ (value % 64 == u)
    bit_is u h = sym (has-part_values bit u h) ∙ ap (λ xs. has xs u) one ∙ or_none (value % 64 == u)

    within : v < 256 → holds more v ≡ (holds set v || value == v)
    within small = ⊎_elim
        (λ (e : v / 64 ≡ value / 64).
        ap (λ k. part_holds (part_of more k) (v % 64)) e
        ∙ ap (λ w. part_holds w (v % 64)) at ∙ part_holds-or (part_of set (value / 64)) bit (v % 64)
        ∙ ap (λ b. part_holds (part_of set (value / 64)) (v % 64) || b) (bit_is (v % 64) (bit_there v))
        ∙ ap (λ k. part_holds (part_of set k) (v % 64) || (value % 64 == v % 64)) (sym e)
        ∙ ap (λ b. holds set v || b) (sym (is_value value v (sym e))))
        (λ (ne : v / 64 ≡ value / 64 → ⊥).
        ap (λ w. part_holds w (v % 64)) (others (v / 64) (word_there v small) ne)
        ∙ sym (or_none (holds set v)) ∙ ap (λ b. holds set v || b) (sym (other_value value v (λ e. ne (sym e)))))
        (cases_eq (v / 64) (value / 64))

-- the values below 64 are those of the first word
pub values_of_first : (set : List ℕ) → part_values (part_of set 0) ≡ filter (λ v. nat_lt v 64) (values_in set)
values_of_first set =
    sym (values_of_part (part_of set 0))
    ∙ values-filter set (part_of set 0 ∷ 0 ∷ 0 ∷ 0 ∷ []) (λ v. nat_lt v 64)
    (λ v small. ⊎_elim
    (λ (low : v < 64).
    let first : v / 64 ≡ 0 = omega (arith, low) in
    ap (λ k. part_holds (part_of (part_of set 0 ∷ 0 ∷ 0 ∷ 0 ∷ []) k) (v % 64)) first
    ∙ ap (λ k. part_holds (part_of set k) (v % 64)) (sym first)
    ∙ sym (and-true (holds set v)) ∙ ap (λ b. holds set v && b) (sym (lt-ltb v 64 low)))
    (λ (high : 64 ≤ v).
    not_first (v / 64) (v % 64) (omega (arith, high)) ∙ sym (ap (λ b. holds set v && b) (le-ltb v 64 high) ∙ and_none (holds set v)))
    (cases_lt v 64))
  where
    and_none : (b : Bool) → (b && false) ≡ false
    and_none true = refl
    and_none false = refl

    not_first : (k u : ℕ) → 0 < k → part_holds (part_of (part_of set 0 ∷ 0 ∷ 0 ∷ 0 ∷ []) k) u ≡ false
    not_first zero u h = absurd (omega (arith, h))
    not_first (suc zero) u h = holds_nothing u
    not_first (suc (suc zero)) u h = holds_nothing u
    not_first (suc (suc (suc zero))) u h = holds_nothing u
    not_first (suc (suc (suc (suc k)))) u h = holds_nothing u

-- the set of one value, whose word lies at its place
one_in_first : (u bit : ℕ) → part_values bit ≡ u ∷ [] → part_values bit ≡ u ∷ part_values 0
one_in_first u bit one = one ∙ ap (λ xs. u ∷ xs) (sym no_values)

pub alone_in_first : (value bit : ℕ) → value / 64 ≡ 0 → part_values bit ≡ value % 64 ∷ [] → values_in (bit ∷ 0 ∷ 0 ∷ 0 ∷ []) ≡ value ∷ []
alone_in_first value bit at one =
    least_in_first (bit ∷ 0 ∷ 0 ∷ 0 ∷ []) (value % 64) 0 (one_in_first (value % 64) bit one)
    ∙ ap (λ n. n ∷ values_in (0 ∷ 0 ∷ 0 ∷ 0 ∷ [])) (let same : value % 64 ≡ value = omega (arith, at) in same) ∙ ap (λ vs. value ∷ vs) values_of_nothing

pub alone_in_second : (value bit : ℕ) → value / 64 ≡ 1 → part_values bit ≡ value % 64 ∷ [] → values_in (0 ∷ bit ∷ 0 ∷ 0 ∷ []) ≡ value ∷ []
alone_in_second value bit at one =
    least_in_second (0 ∷ bit ∷ 0 ∷ 0 ∷ []) (value % 64) 0 no_values (one_in_first (value % 64) bit one)
    ∙ ap (λ n. n ∷ values_in (0 ∷ 0 ∷ 0 ∷ 0 ∷ [])) (let same : 64 + value % 64 ≡ value = omega (arith, at) in same) ∙ ap (λ vs. value ∷ vs) values_of_nothing

pub alone_in_third : (value bit : ℕ) → value / 64 ≡ 2 → part_values bit ≡ value % 64 ∷ [] → values_in (0 ∷ 0 ∷ bit ∷ 0 ∷ []) ≡ value ∷ []
alone_in_third value bit at one =
    least_in_third (0 ∷ 0 ∷ bit ∷ 0 ∷ []) (value % 64) 0 no_values no_values (one_in_first (value % 64) bit one)
    ∙ ap (λ n. n ∷ values_in (0 ∷ 0 ∷ 0 ∷ 0 ∷ [])) (let same : 128 + value % 64 ≡ value = omega (arith, at) in same) ∙ ap (λ vs. value ∷ vs) values_of_nothing

pub alone_in_fourth : (value bit : ℕ) → value / 64 ≡ 3 → part_values bit ≡ value % 64 ∷ [] → values_in (0 ∷ 0 ∷ 0 ∷ bit ∷ []) ≡ value ∷ []
alone_in_fourth value bit at one =
    least_in_fourth (0 ∷ 0 ∷ 0 ∷ bit ∷ []) (value % 64) 0 no_values no_values no_values (one_in_first (value % 64) bit one)
    ∙ ap (λ n. n ∷ values_in (0 ∷ 0 ∷ 0 ∷ 0 ∷ [])) (let same : 192 + value % 64 ≡ value = omega (arith, at) in same) ∙ ap (λ vs. value ∷ vs) values_of_nothing

-- ---- one value, by the word of its place

not_at : (k : ℕ) → k < 4 → (set kept : List ℕ) → ((j : ℕ) → j < 4 → (j ≡ k → ⊥) → part_of kept j ≡ part_of set j) → (value : ℕ) → value / 64 ≡ k → (j : ℕ) → j < 4 → (j ≡ value / 64 → ⊥) → part_of kept j ≡ part_of set j
not_at k there set kept others value at j small ne = others j small (λ e. ne (e ∙ sym at))

pub lost_at : (set kept : List ℕ) (value k : ℕ) → k < 4 → value / 64 ≡ k → part_values (part_of kept k) ≡ filter (λ v. not (v == value % 64)) (part_values (part_of set k)) → ((j : ℕ) → j < 4 → (j ≡ k → ⊥) → part_of kept j ≡ part_of set j) → values_in kept ≡ filter (λ v. not (v == value)) (values_in set)
lost_at set kept value k there at lost others =
    one_lost set kept value
    (subst (λ n. part_values (part_of kept n) ≡ filter (λ v. not (v == value % 64)) (part_values (part_of set n))) (sym at) lost)
    (not_at k there set kept others value at)

pub added_at : (set more : List ℕ) (value bit k : ℕ) → value < 256 → k < 4 → value / 64 ≡ k → part_values bit ≡ value % 64 ∷ [] → part_of more k ≡ bit_or (part_of set k) bit → ((j : ℕ) → j < 4 → (j ≡ k → ⊥) → part_of more j ≡ part_of set j) → (v : ℕ) → has (values_in more) v ≡ (has (values_in set) v || value == v)
added_at set more value bit k few there at one added others =
    one_added set more value bit few one
    (subst (λ n. part_of more n ≡ bit_or (part_of set n) bit) (sym at) added)
    (not_at k there set more others value at)
