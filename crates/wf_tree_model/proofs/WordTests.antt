-- What up to four participants see in a word, by computing over all words.
use Rattle.std.proofs.Common.{◌≡◌, ℕ, zero, suc, ◌+◌, ◌-◌, ◌==◌, ◌&&◌, ◌||◌, ◌<◌, ◌≤◌, nat_lt, max, not, Bool, true, false, cond, List, [], ◌∷◌, map, filter, drop, length, get_or, refl, sym, ap, ◌∙◌, subst, inl, inr, arith}
use Rattle.std.specs.List.{AllByRecursion, count_by, list_all, list_any, range_with_len}
use Rattle.std.proofs.lemmas.Bool.{and_parts, cases_Bool, cases_eq, eq-eqb, eqb-true, false≢true, ltb-true, or_cases}
use Rattle.wf_model.specs.Lists.{below, has, lists_of}
use Rattle.wf_model.specs.Simplex.{parts_of}
use Rattle.wf_model.specs.Word.{Word, words, is_word, is_allowed}
use Rattle.wf_tree_model.specs.Counting.Signs.{block_count}
use Rattle.wf_tree_model.specs.Counting.Rules.{same_numbers}
use Rattle.wf_tree_model.proofs.OfCounting.Lemmas.{each, each_passes, numbers_equal, rows}
use Rattle.wf_tree_model.proofs.Members.{Has, any_has, filter_has, has_any, has_left, has_right, lists_have, map_has, of_has}

-- ---- words

-- one of the words of n participants
abbrev pub passes_word : ℕ → Word → Bool
passes_word n w = (length w == n) && (list_all (has (below n)) w && (is_word w && is_allowed 1 w))

pub has_number : (x : ℕ) (xs : List ℕ) → has xs x ≡ true → Has x xs
has_number x xs h =
    let found = has_any (λ y. y == x) xs h in
    subst (λ y. Has y xs) (eqb-true found.0 x found.2) found.1

pub number_has : (x : ℕ) (xs : List ℕ) → Has x xs → has xs x ≡ true
number_has x xs there = any_has (λ y. y == x) x xs there (eq-eqb x x refl)

pub is_a_word : (n : ℕ) (w : Word) → passes_word n w ≡ true → Has w (words 1 n)
is_a_word n w h =
    let a = and_parts (length w == n) (list_all (has (below n)) w && (is_word w && is_allowed 1 w)) h in
    let b = and_parts (list_all (has (below n)) w) (is_word w && is_allowed 1 w) a.1 in
    filter_has (λ u. is_word u && is_allowed 1 u) w (lists_of (below n) n)
    (lists_have (below n) n w (eqb-true (length w) n a.0, each (λ x. has (below n) x ≡ true) (λ x. Has x (below n)) (λ x there. has_number x (below n) there) w (each_passes (has (below n)) w b.0))) b.1

-- ---- numbers below

range_has : (a n p : ℕ) → a ≤ p → p < a + n → Has p (range_with_len a n)
range_has a zero p from to = absurd (let none : ⊥ = omega (arith, from, to) in none)
range_has a (suc n) p from to =
    elim (cases_eq a p) [
      | inl here ↦ inl here
      | inr other ↦ inr (range_has (a + 1) n p (grind (arith, from, other)) (omega (arith, to)))
    ]

pub below_has : (n p : ℕ) → p < n → Has p (below n)
below_has n p inside = range_has 0 n p (omega arith) (omega (arith, inside))

range_low : (a n b : ℕ) → a + n ≤ b → AllByRecursion (λ p. p < b) (range_with_len a n)
range_low a zero b h = tt
range_low a (suc n) b h = (omega (arith, h), range_low (a + 1) n b (omega (arith, h)))

pub has_below : (n p : ℕ) → Has p (below n) → p < n
has_below n p h = of_has (λ q. q < n) (below n) p (range_low 0 n n (omega arith)) h

-- ---- what a place sees

-- the place, and then the places that it sees in a word of n participants
abbrev pub row : ℕ → ℕ → Word → List ℕ
row n place w = get_or (rows (below n) w) place []

abbrev pub seen_at : ℕ → ℕ → Word → List ℕ
seen_at n place w = drop 1 (row n place w)

abbrev same_row : ℕ → ℕ → Word → Word → Bool
same_row n place u w = same_numbers (row n place u) (row n place w)

-- ---- words one view apart

-- one place at most sees something else
abbrev pub is_close : ℕ → Word → Word → Bool
is_close n u w = list_any (λ i. list_all (λ p. (p == i) || same_row n p u w) (below n)) (below n)

-- blocks numbered without gaps, in the order of these numbers
abbrev pub in_blocks : List ℕ → Word
in_blocks xs = map (λ x. count_by (has xs) (below x)) xs

-- 1 more than the last number that passes, or 0
abbrev latest : (ℕ → Bool) → List ℕ → ℕ
latest test [] = 0
latest test (b ∷ bs) = max (cond (test b) (suc b) 0) (latest test bs)

-- none of the places is in the block
abbrev is_open : List ℕ → Word → ℕ → Bool
is_open places w b = list_all (λ p. not (get_or w p 0 == b)) places

-- the next block comes with this one
abbrev joined : ℕ → Word → Word
joined b w = map (λ x. cond (nat_lt b x) (x - 1) x) w

-- the first of this block comes before the others
abbrev parted : ℕ → Word → Word
parted b [] = []
parted b (x ∷ w) = cond (x == b) (b ∷ map (λ y. cond (nat_lt y b) y (suc y)) w) (cond (nat_lt x b) x (suc x) ∷ parted b w)

abbrev hop_at : Word → ℕ → Word
hop_at w zero = w
hop_at w (suc b) = cond (count_by (λ x. x == b) w == 1) (joined b w) (parted b w)

-- the last block without the places that isn't the last of all: its only participant comes with
-- the next block, or its first one before the others
abbrev pub hop : List ℕ → Word → Word
hop places w = hop_at w (latest (is_open places w) (below (block_count w - 1)))

abbrev pub hops : ℕ → List ℕ → Word → Word
hops zero places w = w
hops (suc k) places w = hops k places (hop places w)

-- each place together with what it alone of these sees
abbrev pub goal_of : ℕ → List (List ℕ) → Word
goal_of n sets = in_blocks (map (λ i. count_by (λ set. not (has set i)) sets) (below n))

abbrev pub sets_at : ℕ → List ℕ → Word → List (List ℕ)
sets_at n places w = map (λ p. seen_at n p w) places

abbrev pub goal : ℕ → List ℕ → Word → Word
goal n places w = goal_of n (sets_at n places w)

-- the place alone in the last block
abbrev pub with_last : ℕ → ℕ → Word → Word
with_last n i w = in_blocks (map (λ j. cond (j == i) n (get_or w j 0)) (below n))

-- ---- tests

abbrev is_headed : ℕ → Word → ℕ → Bool
is_headed n w p = same_numbers (row n p w) (p ∷ seen_at n p w) && (list_all (λ i. nat_lt i n) (seen_at n p w) && has (seen_at n p w) p)

abbrev is_unseen_last : ℕ → Word → ℕ → ℕ → Bool
is_unseen_last n w i p = (has (seen_at n p w) i || same_row n p w (with_last n i w)) && ((p == i) || not (has (row n p (with_last n i w)) i))

abbrev passes_last : ℕ → Word → ℕ → Bool
passes_last n w i = passes_word n (with_last n i w) && list_all (is_unseen_last n w i) (below n)

abbrev passes_views : ℕ → Word → Bool
passes_views n w = list_all (is_headed n w) (below n) && list_all (passes_last n w) (below n)

abbrev passes_hop : ℕ → List ℕ → Word → Bool
passes_hop n places w = passes_word n (hop places w) && (list_all (λ p. same_row n p w (hop places w)) places && is_close n w (hop places w))

abbrev passes_places : ℕ → List ℕ → Bool
passes_places n places = list_all (λ w. passes_hop n places w && same_numbers (hops 5 places w) (goal n places w)) (words 1 n)

abbrev passes_all : ℕ → Bool
passes_all n = list_all (passes_views n) (words 1 n) && list_all (passes_places n) (parts_of (below n))

one : passes_all 1 ≡ true
one = refl

two : passes_all 2 ≡ true
two = refl

three : passes_all 3 ≡ true
three = refl

four : passes_all 4 ≡ true
four = refl

every : (n : ℕ) → 1 ≤ n → n ≤ 4 → passes_all n ≡ true
every zero some few = absurd (let none : ⊥ = omega arith in none)
every (suc zero) some few = one
every (suc (suc zero)) some few = two
every (suc (suc (suc zero))) some few = three
every (suc (suc (suc (suc zero)))) some few = four
every (suc (suc (suc (suc (suc n))))) some few = absurd (let none : ⊥ = omega arith in none)

-- ---- what the tests say

-- the numbers below n that pass
abbrev pub chosen : ℕ → (ℕ → Bool) → List ℕ
chosen n test = filter test (below n)

filter_part : {X : Type 0} (test : X → Bool) (xs : List X) → Has (filter test xs) (parts_of xs)
filter_part test [] = inl refl
filter_part test (x ∷ xs) =
    elim (cases_Bool (test x)) [
      | inl in' ↦ rw in' (has_left (x ∷ filter test xs) (map (λ rest. x ∷ rest) (parts_of xs)) (parts_of xs) (map_has (λ rest. x ∷ rest) (filter test xs) (parts_of xs) (filter_part test xs)))
      | inr out ↦ rw out (has_right (filter test xs) (map (λ rest. x ∷ rest) (parts_of xs)) (parts_of xs) (filter_part test xs))
    ]

pub filter_gives : {X : Type 0} (test : X → Bool) (xs : List X) (x : X) → Has x (filter test xs) → Has x xs × (test x ≡ true)
filter_gives test [] x h = absurd h
filter_gives test (y ∷ ys) x h =
    elim (cases_Bool (test y)) [
      | inl in' ↦ elim (subst (λ b. Has x (cond b (y ∷ filter test ys) (filter test ys))) in' h) [
        | inl e ↦ (inl e, sym (ap test e) ∙ in')
        | inr there ↦ let rest = filter_gives test ys x there in (inr rest.0, rest.1)
      ]
      | inr out ↦ let rest = filter_gives test ys x (subst (λ b. Has x (cond b (y ∷ filter test ys) (filter test ys))) out h) in (inr rest.0, rest.1)
    ]

pub chosen_has : (n : ℕ) (test : ℕ → Bool) (p : ℕ) → p < n → test p ≡ true → Has p (chosen n test)
chosen_has n test p low pass = filter_has test p (below n) (below_has n p low) pass

pub has_chosen : (n : ℕ) (test : ℕ → Bool) (p : ℕ) → Has p (chosen n test) → (p < n) × (test p ≡ true)
has_chosen n test p h = let parts = filter_gives test (below n) p h in (has_below n p parts.0, parts.1)

-- what a place sees
pub record Headed (n p : ℕ) (w : Word) : Type 0 where
  pub row : row n p w ≡ p ∷ seen_at n p w
  pub low : AllByRecursion (λ i. i < n) (seen_at n p w)
  pub itself : has (seen_at n p w) p ≡ true

-- one place is last alone: where it wasn't seen nothing changes
pub record Last (n i : ℕ) (w : Word) : Type 0 where
  pub word : Has (with_last n i w) (words 1 n)
  pub unseen : (p : ℕ) → p < n → has (seen_at n p w) i ≡ false → row n p w ≡ row n p (with_last n i w)
  pub apart : (p : ℕ) → p < n → (p ≡ i → ⊥) → has (row n p (with_last n i w)) i ≡ false

-- one view apart
abbrev pub AreClose : ℕ → Word → Word → Type 0
AreClose n u w = (i : ℕ) × (i < n) × ((p : ℕ) → p < n → (p ≡ i → ⊥) → row n p u ≡ row n p w)

pub record Hop (n : ℕ) (places : List ℕ) (w : Word) : Type 0 where
  pub word : Has (hop places w) (words 1 n)
  pub same : AllByRecursion (λ p. row n p w ≡ row n p (hop places w)) places
  pub close : AreClose n w (hop places w)

not_there : (b : Bool) → not b ≡ true → b ≡ false
not_there true h = absurd (false≢true h)
not_there false h = refl

close : (n : ℕ) (u w : Word) → is_close n u w ≡ true → AreClose n u w
close n u w h =
    let found = has_any (λ i. list_all (λ p. (p == i) || same_row n p u w) (below n)) (below n) h in
    let i = found.0 in (
      i,
      has_below n i found.1,
      (λ p low other.
          let here : ((p == i) || same_row n p u w) ≡ true = of_has (λ q. ((q == i) || same_row n q u w) ≡ true) (below n) p (each_passes (λ q. (q == i) || same_row n q u w) (below n) found.2) (below_has n p low) in
          elim (or_cases (p == i) (same_row n p u w) here) [ inl same ↦ absurd (other (eqb-true p i same)) | inr same ↦ numbers_equal (row n p u) (row n p w) same ]),
    )

module _ (n : ℕ) (some : 1 ≤ n) (few : n ≤ 4) where
  tests : (list_all (passes_views n) (words 1 n) ≡ true) × (list_all (passes_places n) (parts_of (below n)) ≡ true)
  tests = and_parts (list_all (passes_views n) (words 1 n)) (list_all (passes_places n) (parts_of (below n))) (every n some few)

  views_pass : (w : Word) → Has w (words 1 n) → (list_all (is_headed n w) (below n) ≡ true) × (list_all (passes_last n w) (below n) ≡ true)
  views_pass w there =
      and_parts (list_all (is_headed n w) (below n)) (list_all (passes_last n w) (below n))
      (of_has (λ u. passes_views n u ≡ true) (words 1 n) w (each_passes (passes_views n) (words 1 n) tests.0) there)

  pub headed : (w : Word) → Has w (words 1 n) → (p : ℕ) → p < n → Headed n p w
  headed w there p low =
      let here : is_headed n w p ≡ true = of_has (λ q. is_headed n w q ≡ true) (below n) p (each_passes (is_headed n w) (below n) (views_pass w there).0) (below_has n p low) in
      let a = and_parts (same_numbers (row n p w) (p ∷ seen_at n p w)) (list_all (λ i. nat_lt i n) (seen_at n p w) && has (seen_at n p w) p) here in
      let b = and_parts (list_all (λ i. nat_lt i n) (seen_at n p w)) (has (seen_at n p w) p) a.1 in
      record {
        row = numbers_equal (row n p w) (p ∷ seen_at n p w) a.0;
        low = each (λ i. nat_lt i n ≡ true) (λ i. i < n) (λ i l. ltb-true i n l) (seen_at n p w) (each_passes (λ i. nat_lt i n) (seen_at n p w) b.0);
        itself = b.1;
      }

  pub last : (w : Word) → Has w (words 1 n) → (i : ℕ) → i < n → Last n i w
  last w there i low =
      let u = with_last n i w in
      let here : passes_last n w i ≡ true = of_has (λ q. passes_last n w q ≡ true) (below n) i (each_passes (passes_last n w) (below n) (views_pass w there).1) (below_has n i low) in
      let a = and_parts (passes_word n u) (list_all (is_unseen_last n w i) (below n)) here in
      let at = λ (p : ℕ) (l : p < n).
      and_parts (has (seen_at n p w) i || same_row n p w u) ((p == i) || not (has (row n p u) i))
      (of_has (λ q. is_unseen_last n w i q ≡ true) (below n) p (each_passes (is_unseen_last n w i) (below n) a.1) (below_has n p l)) in
      record {
        word = is_a_word n u a.0;
        unseen = λ p l out. elim (or_cases (has (seen_at n p w) i) (same_row n p w u) (at p l).0) [ inl there' ↦ absurd (false≢true (sym out ∙ there')) | inr same ↦ numbers_equal (row n p w) (row n p u) same ];
        apart = λ p l other. elim (or_cases (p == i) (not (has (row n p u) i)) (at p l).1) [ inl same ↦ absurd (other (eqb-true p i same)) | inr out ↦ not_there (has (row n p u) i) out ];
      }

  -- a word passes at the places
  passed : (test : ℕ → Bool) (w : Word) → Has w (words 1 n) → (passes_hop n (chosen n test) w ≡ true) × (same_numbers (hops 5 (chosen n test) w) (goal n (chosen n test) w) ≡ true)
  passed test w there =
      let places = chosen n test in
      let here : passes_places n places ≡ true = of_has (λ k. passes_places n k ≡ true) (parts_of (below n)) places (each_passes (passes_places n) (parts_of (below n)) tests.1) (filter_part test (below n)) in
      and_parts (passes_hop n places w) (same_numbers (hops 5 places w) (goal n places w))
      (of_has (λ u. (passes_hop n places u && same_numbers (hops 5 places u) (goal n places u)) ≡ true) (words 1 n) w (each_passes (λ u. passes_hop n places u && same_numbers (hops 5 places u) (goal n places u)) (words 1 n) here) there)

  pub hopped : (test : ℕ → Bool) (w : Word) → Has w (words 1 n) → Hop n (chosen n test) w
  hopped test w there =
      let places = chosen n test in
      let next = hop places w in
      let a = and_parts (passes_word n next) (list_all (λ p. same_row n p w next) places && is_close n w next) (passed test w there).0 in
      let b = and_parts (list_all (λ p. same_row n p w next) places) (is_close n w next) a.1 in
      record {
        word = is_a_word n next a.0;
        same = each (λ p. same_row n p w next ≡ true) (λ p. row n p w ≡ row n p next) (λ p e. numbers_equal (row n p w) (row n p next) e) places (each_passes (λ p. same_row n p w next) places b.0);
        close = close n w next b.1;
      }

  pub at_goal : (test : ℕ → Bool) (w : Word) → Has w (words 1 n) → hops 5 (chosen n test) w ≡ goal n (chosen n test) w
  at_goal test w there = numbers_equal (hops 5 (chosen n test) w) (goal n (chosen n test) w) (passed test w there).1
