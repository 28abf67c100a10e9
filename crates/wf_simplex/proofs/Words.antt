-- The words of a size, by their place in the table.
use Rattle.std.proofs.Common.{◌≡◌, ℕ, ◌+◌, ◌-◌, ◌<◌, ◌≤◌, [], length, take, drop, slice_get, slice_index_or, Some, Contains, refl, sym, ap, ◌∙◌, arith, get_or-take, get_or-drop, nat_lt, true, Bool, ltb-true}
use Rattle.std.specs.List.{list_all, range_with_len}
use Rattle.std.proofs.lemmas.List.{get_or-map, length-map}
use Rattle.std.proofs.lemmas.Option.{slice_get-get_or, slice_get_within, get_or_from_slice_get}
use Rattle.wf_model.specs.Word.{words}
use Rattle.wf_simplex.specs.declared.word.TheConstants.{WORDS}
use Rattle.wf_simplex.specs.WordTable.{start_of, end_of, word_at, words_of, IsInTable, each_size, length-word_at, words_are, passes}

length_1 : length (words_of 1) ≡ 1
unfolding words_of
length_1 = refl

length_2 : length (words_of 2) ≡ 3
unfolding words_of
length_2 = refl

length_3 : length (words_of 3) ≡ 13
unfolding words_of
length_3 = refl

length_4 : length (words_of 4) ≡ 75
unfolding words_of
length_4 = refl

pub length-words_of : (n : ℕ) → 1 ≤ n → n ≤ 4 → length (words_of n) ≡ end_of n - start_of n
length-words_of = each_size (λ n. length (words_of n) ≡ end_of n - start_of n) length_1 length_2 length_3 length_4

-- the word of a size at its place among those of the size
get_words_of : (n k : ℕ) → 1 ≤ n → n ≤ 4 → k < end_of n - start_of n → slice_get (words_of n) k ≡ Some (word_at n (start_of n + k))
unfolding words_of word_at
get_words_of n k some few h =
    let whole = drop (start_of n) WORDS in
    let size : length (words_of n) ≡ end_of n - start_of n = length-words_of n some few in
    let inside : k < length (words_of n) = omega arith in
    let shorter : k < length (take (end_of n - start_of n) whole) = omega (arith, inside, length-map (take (end_of n - start_of n) whole) (take n)) in
    slice_get-get_or (words_of n) k [] inside
    ∙ ap Some (get_or-map (take n) (take (end_of n - start_of n) whole) k [] [] shorter
    ∙ ap (take n) (get_or-take (end_of n - start_of n) whole k [] h ∙ get_or-drop (start_of n) WORDS k []))

pub get_word : (n index : ℕ) → IsInTable n index → slice_get (words 1 n) (index - start_of n) ≡ Some (word_at n index)
get_word n index h =
    let back : start_of n + (index - start_of n) ≡ index = omega (arith, h.from) in
    ap (λ ws. slice_get ws (index - start_of n)) (words_are n h.some h.few)
    ∙ get_words_of n (index - start_of n) h.some h.few (omega (arith, h.from, h.upto))
    ∙ ap (λ i. Some (word_at n i)) back

-- ---- the numbers of a word

levels_within : ℕ → ℕ → Bool
levels_within n k = list_all (λ i. nat_lt (slice_index_or (word_at n (start_of n + k)) i 0) n) (range_with_len 0 n)

all_levels_within : ℕ → Bool
all_levels_within n = list_all (levels_within n) (range_with_len 0 (end_of n - start_of n))

levels_1 : all_levels_within 1 ≡ true
unfolding all_levels_within levels_within word_at
levels_1 = refl

levels_2 : all_levels_within 2 ≡ true
unfolding all_levels_within levels_within word_at
levels_2 = refl

levels_3 : all_levels_within 3 ≡ true
unfolding all_levels_within levels_within word_at
levels_3 = refl

levels_4 : all_levels_within 4 ≡ true
unfolding all_levels_within levels_within word_at
levels_4 = refl

pub level_below : (n index i : ℕ) → IsInTable n index → i < n → slice_index_or (word_at n index) i 0 < n
unfolding all_levels_within levels_within
level_below n index i h inside =
    let every = each_size (λ n. all_levels_within n ≡ true) levels_1 levels_2 levels_3 levels_4 n h.some h.few in
    let k = index - start_of n in
    let back : start_of n + (0 + k) ≡ index = omega (arith, h.from) in
    let word = passes (levels_within n) 0 (end_of n - start_of n) k every (omega (arith, h.from, h.upto)) in
    let zero_on : 0 + i ≡ i = omega arith in
    let here = passes (λ i. nat_lt (slice_index_or (word_at n (start_of n + (0 + k))) i 0) n) 0 n i word inside in
    ltb-true (slice_index_or (word_at n index) i 0) n (rw (back, zero_on) at here)

pub level_in_table : (n index i : ℕ) → i < n → slice_index_or (slice_index_or WORDS index []) i 0 ≡ slice_index_or (word_at n index) i 0
unfolding word_at
level_in_table n index i h = sym (get_or-take n (slice_index_or WORDS index []) i 0 h)

-- ---- a word of the table is one of its size

pub is_a_word : (n index : ℕ) → IsInTable n index → Contains (words 1 (length (word_at n index))) (word_at n index)
is_a_word n index h =
    let is = get_word n index h in
    let place = index - start_of n in
    let size = length-word_at n index h in
    rw size (place, slice_get_within (words 1 n) place (word_at n index) is, get_or_from_slice_get (words 1 n) place (word_at n index) (word_at n index) is)
