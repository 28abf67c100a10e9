-- The words whose first block has a least size, by their places in the table.
use Rattle.std.proofs.Common.{◌≡◌, ℕ, zero, suc, ◌+◌, ◌-◌, ◌<◌, ◌≤◌, ◌==◌, ◌&&◌, nat_le, nat_lt, List, [], map, filter, length, slice_get, slice_index_or, if◌then◌else◌, Some, Bool, true, false, refl, sym, ap, ◌∙◌, inl, inr, arith, leb-true, ltb-true, eqb-true}
use Rattle.std.specs.List.{list_all, range_with_len}
use Rattle.std.proofs.lemmas.Bool.{and_parts, cases_lt}
use Rattle.std.proofs.lemmas.List.{get_or-map, get_or_past, get_or_default, length-map}
use Rattle.std.proofs.lemmas.Option.{slice_get-get_or, slice_get_within, get_or_from_slice_get}
use Rattle.wf_model.specs.Word.{Word, is_allowed, words}
use Rattle.wf_simplex.specs.WordTable.{start_of, end_of, word_at, index_of, IsInTable, each_size, length-word_at, index_of-word_at, passes}

-- whether the word of a size at a place of the table has a first block of m at least, or of all
unfoldable pub allows : ℕ → ℕ → ℕ → Bool
allows m n index = is_allowed m (word_at n index)

-- the places of these words
places : ℕ → ℕ → List ℕ
places m n = filter (allows m n) (range_with_len (start_of n) (end_of n - start_of n))

-- the first of these places among the next places from here on; where there
-- is none, the end of them
pub seek : ℕ → ℕ → ℕ → ℕ → ℕ
seek m n index zero = index
seek m n index (suc left) = if allows m n index then index else seek m n (index + 1) left

AreThere : ℕ → ℕ → Type 0
AreThere m n = words m n ≡ map (word_at n) (places m n)

-- what holds of the sizes of a first block and of a word
pub each_pair : (P : ℕ → ℕ → Type 0) → P 1 1 → P 1 2 → P 1 3 → P 1 4 → P 2 1 → P 2 2 → P 2 3 → P 2 4 → P 3 1 → P 3 2 → P 3 3 → P 3 4 → P 4 1 → P 4 2 → P 4 3 → P 4 4 →
    (m n : ℕ) → 1 ≤ m → m ≤ 4 → 1 ≤ n → n ≤ 4 → P m n
each_pair P a b c d e f g h i j k l x y z w m n one most some few =
    each_size (λ m. P m n) (each_size (P 1) a b c d n some few) (each_size (P 2) e f g h n some few) (each_size (P 3) i j k l n some few) (each_size (P 4) x y z w n some few) m one most

are_there : (m n : ℕ) → 1 ≤ m → m ≤ 4 → 1 ≤ n → n ≤ 4 → AreThere m n
unfolding AreThere places allows word_at
are_there = each_pair AreThere refl refl refl refl refl refl refl refl refl refl refl refl refl refl refl refl

pub first_there : (m n : ℕ) → 1 ≤ m → m ≤ 4 → 1 ≤ n → n ≤ 4 → slice_get (words m n) 0 ≡ Some (word_at n (start_of n))
unfolding word_at
first_there = each_pair (λ m n. slice_get (words m n) 0 ≡ Some (word_at n (start_of n))) refl refl refl refl refl refl refl refl refl refl refl refl refl refl refl refl

-- one of these places lies in the table, and the next one is found from it
followed : ℕ → ℕ → ℕ → Bool
followed m n k =
    let here = slice_index_or (places m n) k 0 in
    nat_le (start_of n) here && (nat_lt here (end_of n) && (seek m n (here + 1) (end_of n - (here + 1)) == slice_index_or (places m n) (k + 1) (end_of n)))

all_followed : ℕ → ℕ → Bool
all_followed m n = list_all (followed m n) (range_with_len 0 (length (places m n)))

each_followed : (m n : ℕ) → 1 ≤ m → m ≤ 4 → 1 ≤ n → n ≤ 4 → all_followed m n ≡ true
unfolding all_followed followed places seek allows word_at
each_followed = each_pair (λ m n. all_followed m n ≡ true) refl refl refl refl refl refl refl refl refl refl refl refl refl refl refl refl

record IsPlace (m n k : ℕ) : Type 0 where
  inside : IsInTable n (slice_index_or (places m n) k 0)
  next : seek m n (slice_index_or (places m n) k 0 + 1) (end_of n - (slice_index_or (places m n) k 0 + 1)) ≡ slice_index_or (places m n) (k + 1) (end_of n)

is_place : (m n k : ℕ) → 1 ≤ m → m ≤ 4 → 1 ≤ n → n ≤ 4 → k < length (places m n) → IsPlace m n k
unfolding all_followed followed
is_place m n k one most some few h =
    let here = slice_index_or (places m n) k 0 in
    let at : 0 + k ≡ k = omega arith in
    let tests : followed m n k ≡ true = rw at at (passes (followed m n) 0 (length (places m n)) k (each_followed m n one most some few) h) in
    let low = and_parts (nat_le (start_of n) here) (nat_lt here (end_of n) && (seek m n (here + 1) (end_of n - (here + 1)) == slice_index_or (places m n) (k + 1) (end_of n))) tests in
    let high = and_parts (nat_lt here (end_of n)) (seek m n (here + 1) (end_of n - (here + 1)) == slice_index_or (places m n) (k + 1) (end_of n)) low.1 in
    record {
      inside = record { some = some; few = few; from = leb-true (start_of n) here low.0; upto = ltb-true here (end_of n) high.0 };
      next = eqb-true (seek m n (here + 1) (end_of n - (here + 1))) (slice_index_or (places m n) (k + 1) (end_of n)) high.1;
    }

-- ---- from a word to the next

module _ (m n index : ℕ) (one : 1 ≤ m) (most : m ≤ 4) (h : IsInTable n index) (w : Word) (at : word_at n index ≡ w) (k : ℕ) (is : slice_get (words m (length w)) k ≡ Some w) where
  size : length w ≡ n
  size = ap length (sym at) ∙ length-word_at n index h

  there : words m n ≡ map (word_at n) (places m n)
  unfolding AreThere
  there = are_there m n one most h.some h.few

  here : slice_get (map (word_at n) (places m n)) k ≡ Some (word_at n index)
  here = ap (λ ws. slice_get ws k) (sym there) ∙ ap (λ j. slice_get (words m j) k) (sym size) ∙ is ∙ ap Some (sym at)

  inside : k < length (places m n)
  inside = omega (arith, slice_get_within (map (word_at n) (places m n)) k (word_at n index) here, length-map (places m n) (word_at n))

  found : slice_index_or (places m n) k 0 ≡ index
  found =
      let place = is_place m n k one most h.some h.few inside in
      let same : word_at n (slice_index_or (places m n) k 0) ≡ word_at n index =
      sym (get_or-map (word_at n) (places m n) k 0 [] inside) ∙ get_or_from_slice_get (map (word_at n) (places m n)) k (word_at n index) [] here in
      sym (index_of-word_at n (slice_index_or (places m n) k 0) place.inside) ∙ ap index_of same ∙ index_of-word_at n index h

  sought : seek m n (index + 1) (end_of n - (index + 1)) ≡ slice_index_or (places m n) (k + 1) (end_of n)
  sought = ap (λ j. seek m n (j + 1) (end_of n - (j + 1))) (sym found) ∙ (is_place m n k one most h.some h.few inside).next

  pub next_there : (next : ℕ) → seek m n (index + 1) (end_of n - (index + 1)) ≡ next → next < end_of n → slice_get (words m (length w)) (k + 1) ≡ Some (word_at n next)
  next_there next e low = elim (cases_lt (k + 1) (length (places m n))) [
    | inl more ↦
        let long : k + 1 < length (map (word_at n) (places m n)) = omega (arith, more, length-map (places m n) (word_at n)) in
        ap (λ j. slice_get (words m j) (k + 1)) size
        ∙ ap (λ ws. slice_get ws (k + 1)) there
        ∙ slice_get-get_or (map (word_at n) (places m n)) (k + 1) [] long
        ∙ ap Some (get_or-map (word_at n) (places m n) (k + 1) (end_of n) [] more)
        ∙ ap (λ j. Some (word_at n j)) (sym sought ∙ e)
    | inr past ↦ absurd (let none : ⊥ = omega (arith, low, e, sought, get_or_past (places m n) (k + 1) (end_of n) past) in none)
  ]

  pub last_there : seek m n (index + 1) (end_of n - (index + 1)) ≡ end_of n → k + 1 ≡ length (words m (length w))
  last_there e =
      let all : length (words m (length w)) ≡ length (places m n) = ap (λ j. length (words m j)) size ∙ ap length there ∙ length-map (places m n) (word_at n) in
      elim (cases_lt (k + 1) (length (places m n))) [
        | inl more ↦
            let low = (is_place m n (k + 1) one most h.some h.few more).inside.upto in
            absurd (let none : ⊥ = omega (arith, low, e, sought, get_or_default (places m n) (k + 1) (end_of n) 0 more) in none)
        | inr past ↦ omega (arith, inside, past, all)
      ]

-- ---- seeking on

pub seek_here : (m n index left : ℕ) → 0 < left → allows m n index ≡ true → seek m n index left ≡ index
unfolding seek
seek_here m n index zero some h = refl
seek_here m n index (suc left) some h = rw h refl

pub seek_on : (m n index left : ℕ) → 0 < left → allows m n index ≡ false → seek m n index left ≡ seek m n (index + 1) (left - 1)
unfolding seek
seek_on m n index zero some h = absurd (let none : ⊥ = omega (arith, some) in none)
seek_on m n index (suc left) some h = let e : suc left - 1 ≡ left = omega arith in rw e (rw h refl)

pub seek_none : (m n index left : ℕ) → left ≡ 0 → seek m n index left ≡ index
unfolding seek
seek_none m n index left h = rw h refl
