-- The table of words, and where it holds a word.
use Rattle.std.specs.Prelude.{◌≡◌, ℕ, zero, suc, ◌+◌, ◌-◌, ◌<◌, ◌≤◌, ◌==◌, ◌&&◌, Bool, true, false, List, [], length, map, take, drop, slice_index_or, position, unwrap_or, refl}
use Rattle.std.specs.List.{list_all, range_with_len}
use Rattle.std.specs.Cmp.Lexicographic.{pointwise}
use Rattle.std.proofs.Common.{arith, ap, ◌∙◌, eqb-true}
use Rattle.wf_model.specs.Word.{Word, words}
use Rattle.wf_model.specs.Lists.{below}
use Rattle.wf_simplex.specs.declared.word.TheConstants.{WORDS}

-- the place in the table at which the words of a size begin
abbrev pub start_of : ℕ → ℕ
start_of zero = 0
start_of (suc zero) = 0
start_of (suc (suc zero)) = 1
start_of (suc (suc (suc zero))) = 4
start_of (suc (suc (suc (suc n)))) = 17

-- the place behind the words of a size
abbrev pub end_of : ℕ → ℕ
end_of zero = 0
end_of (suc zero) = 1
end_of (suc (suc zero)) = 4
end_of (suc (suc (suc zero))) = 17
end_of (suc (suc (suc (suc n)))) = 92

-- the word of a size at a place of the table
unfoldable pub word_at : ℕ → ℕ → Word
word_at size index = take size (slice_index_or WORDS index [])

-- the words of a size in the table
unfoldable pub words_of : ℕ → List Word
words_of n = map (take n) (take (end_of n - start_of n) (drop (start_of n) WORDS))

abbrev pub same_word : Word → Word → Bool
same_word v w = pointwise (λ x y. x == y) v w

-- the place of a word in a list
unfoldable pub place_in : List Word → Word → ℕ
place_in ws w = unwrap_or (position (same_word w) ws) 0

-- the size of a word, and its place in the table
abbrev pub size_of : Word → ℕ
size_of w = length w

abbrev pub index_of : Word → ℕ
index_of w = start_of (length w) + place_in (words_of (length w)) w

-- each word of the table has the size, and is found at its place
found : ℕ → ℕ → Bool
found n k = (length (word_at n (start_of n + k)) == n) && (place_in (words_of n) (word_at n (start_of n + k)) == k)

all_found : ℕ → Bool
all_found n = list_all (found n) (below (end_of n - start_of n))

found_1 : all_found 1 ≡ true
unfolding all_found found word_at place_in words_of
found_1 = refl

found_2 : all_found 2 ≡ true
unfolding all_found found word_at place_in words_of
found_2 = refl

found_3 : all_found 3 ≡ true
unfolding all_found found word_at place_in words_of
found_3 = refl

found_4 : all_found 4 ≡ true
unfolding all_found found word_at place_in words_of
found_4 = refl

-- what holds of the sizes one to four
pub each_size : (P : ℕ → Type 0) → P 1 → P 2 → P 3 → P 4 → (n : ℕ) → 1 ≤ n → n ≤ 4 → P n
each_size P a b c d zero h k = absurd (omega arith)
each_size P a b c d (suc zero) h k = a
each_size P a b c d (suc (suc zero)) h k = b
each_size P a b c d (suc (suc (suc zero))) h k = c
each_size P a b c d (suc (suc (suc (suc zero)))) h k = d
each_size P a b c d (suc (suc (suc (suc (suc n))))) h k = absurd (omega arith)

all_found-size : (n : ℕ) → 1 ≤ n → n ≤ 4 → all_found n ≡ true
all_found-size = each_size (λ n. all_found n ≡ true) found_1 found_2 found_3 found_4

and_first : (a b : Bool) → (a && b) ≡ true → a ≡ true
and_first true b h = refl
and_first false b h = h

and_second : (a b : Bool) → (a && b) ≡ true → b ≡ true
and_second true b h = h
and_second false b h = cc

pub passes : (p : ℕ → Bool) (a n i : ℕ) → list_all p (range_with_len a n) ≡ true → i < n → p (a + i) ≡ true
passes p a zero i h k = absurd (omega arith)
passes p a (suc n) zero h k = let e : a + 0 ≡ a = omega arith in rw e (and_first (p a) (list_all p (range_with_len (a + 1) n)) h)
passes p a (suc n) (suc i) h k = let e : a + suc i ≡ (a + 1) + i = omega arith in rw e (passes p (a + 1) n i (and_second (p a) (list_all p (range_with_len (a + 1) n)) h) (omega arith))

-- a word of the table by its size and its place among them
pub record IsInTable (n index : ℕ) : Type 0 where
  pub some : 1 ≤ n
  pub few : n ≤ 4
  pub from : start_of n ≤ index
  pub upto : index < end_of n

is_found : (n index : ℕ) → IsInTable n index → found n (index - start_of n) ≡ true
unfolding all_found
is_found n index h =
    let k = index - start_of n in
    let inside : k < end_of n - start_of n = omega (arith, h.from, h.upto) in
    let at : 0 + k ≡ k = omega arith in
    rw at at (passes (found n) 0 (end_of n - start_of n) k (all_found-size n h.some h.few) inside)

pub length-word_at : (n index : ℕ) → IsInTable n index → length (word_at n index) ≡ n
unfolding found
length-word_at n index h =
    let back : start_of n + (index - start_of n) ≡ index = omega (arith, h.from) in
    rw back at (eqb-true (length (word_at n (start_of n + (index - start_of n)))) n (and_first _ _ (is_found n index h)))

pub place_in-word_at : (n index : ℕ) → IsInTable n index → place_in (words_of n) (word_at n index) ≡ index - start_of n
unfolding found
place_in-word_at n index h =
    let back : start_of n + (index - start_of n) ≡ index = omega (arith, h.from) in
    rw back at (eqb-true (place_in (words_of n) (word_at n (start_of n + (index - start_of n)))) (index - start_of n) (and_second _ _ (is_found n index h)))

pub index_of-word_at : (n index : ℕ) → IsInTable n index → index_of (word_at n index) ≡ index
index_of-word_at n index h =
    let size = length-word_at n index h in
    ap (λ m. start_of m + place_in (words_of m) (word_at n index)) size ∙ ap (λ k. start_of n + k) (place_in-word_at n index h)
    ∙ omega (arith, h.from)

words_1 : words 1 1 ≡ words_of 1
unfolding words_of
words_1 = refl

words_2 : words 1 2 ≡ words_of 2
unfolding words_of
words_2 = refl

words_3 : words 1 3 ≡ words_of 3
unfolding words_of
words_3 = refl

words_4 : words 1 4 ≡ words_of 4
unfolding words_of
words_4 = refl

-- the table holds the words of each size
pub words_are : (n : ℕ) → 1 ≤ n → n ≤ 4 → words 1 n ≡ words_of n
words_are = each_size (λ n. words 1 n ≡ words_of n) words_1 words_2 words_3 words_4
