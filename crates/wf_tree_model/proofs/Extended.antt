-- An execution on a face is part of one on the simplex: the other participants come last.
use Rattle.std.proofs.Common.{◌≡◌, ℕ, zero, suc, ◌&&◌, ◌≤◌, Bool, true, false, List, [], ◌∷◌, map, fold, length, inl, inr, refl, sym, ap, ◌∙◌, subst, arith}
use Rattle.std.specs.List.{AllByRecursion, list_all}
use Rattle.std.specs.Cmp.Lexicographic.{pointwise}
use Rattle.std.proofs.lemmas.Bool.{and_parts, false≢true}
use Rattle.std.proofs.lemmas.List.{length-map}
use Rattle.wf_model.specs.Lists.{below, lists_of}
use Rattle.wf_model.specs.Word.{Word, words}
use Rattle.wf_model.specs.View.{View, base, round}
use Rattle.wf_model.proofs.Lemmas.{by_place, length-below, each_map, words_long}
use Rattle.wf_tree_model.specs.Counting.Signs.{block_count, keep}
use Rattle.wf_tree_model.specs.Counting.Rules.{same_numbers}
use Rattle.wf_tree_model.proofs.OfCounting.Lemmas.{each, each_passes, length_keep, round_long, keep_map, numbers_equal, round_rows, rows, view_of}
use Rattle.wf_tree_model.proofs.Members.{AreOf, Has, from_each, lists_have, of_has}
use Rattle.wf_tree_model.proofs.WordTests.{is_a_word, passes_word}
use Rattle.wf_tree_model.proofs.Places.{at}

-- ---- words

-- the kept participants as in the word, the others in this block
abbrev with_block : ℕ → List Bool → Word → Word
with_block last [] w = []
with_block last (false ∷ mask) w = last ∷ with_block last mask w
with_block last (true ∷ mask) [] = []
with_block last (true ∷ mask) (b ∷ w) = b ∷ with_block last mask w

abbrev pub extended : List Bool → Word → Word
extended mask w = with_block (block_count w) mask w

abbrev same_rows : List (List ℕ) → List (List ℕ) → Bool
same_rows xs ys = pointwise same_numbers xs ys

rows_equal : (xs ys : List (List ℕ)) → same_rows xs ys ≡ true → xs ≡ ys
rows_equal [] [] h = refl
rows_equal [] (y ∷ ys) h = absurd (false≢true h)
rows_equal (x ∷ xs) [] h = absurd (false≢true h)
rows_equal (x ∷ xs) (y ∷ ys) h =
    let parts = and_parts (same_numbers x y) (same_rows xs ys) h in
    let first = numbers_equal x y parts.0 in
    let rest = rows_equal xs ys parts.1 in
    λ i. first i ∷ rest i

-- the kept participants see what they see alone
abbrev passes_extended : ℕ → List Bool → Word → Bool
passes_extended n mask w = passes_word n (extended mask w) && same_rows (keep mask (rows (below n) (extended mask w))) (rows (keep mask (below n)) w)

abbrev passes_mask : ℕ → List Bool → Bool
passes_mask n mask = list_all (passes_extended n mask) (words 1 (length (keep mask (below n))))

abbrev masks : ℕ → List (List Bool)
masks n = lists_of (true ∷ false ∷ []) n

one : list_all (passes_mask 1) (masks 1) ≡ true
one = refl

two : list_all (passes_mask 2) (masks 2) ≡ true
two = refl

three : list_all (passes_mask 3) (masks 3) ≡ true
three = refl

four : list_all (passes_mask 4) (masks 4) ≡ true
four = refl

every : (n : ℕ) → 1 ≤ n → n ≤ 4 → list_all (passes_mask n) (masks n) ≡ true
every zero some few = absurd (let none : ⊥ = omega arith in none)
every (suc zero) some few = one
every (suc (suc zero)) some few = two
every (suc (suc (suc zero))) some few = three
every (suc (suc (suc (suc zero)))) some few = four
every (suc (suc (suc (suc (suc n))))) some few = absurd (let none : ⊥ = omega arith in none)

either_has : (b : Bool) → Has b (true ∷ false ∷ [])
either_has true = inl refl
either_has false = inr (inl refl)

module _ (n : ℕ) (some : 1 ≤ n) (few : n ≤ 4) (mask : List Bool) (long : length mask ≡ n) where
  passed : (w : Word) → Has w (words 1 (length (keep mask (below n)))) → passes_extended n mask w ≡ true
  passed w there =
      let listed = lists_have (true ∷ false ∷ []) n mask (long, from_each (λ b. Has b (true ∷ false ∷ [])) mask (λ b h. either_has b)) in
      let here : passes_mask n mask ≡ true = of_has (λ k. passes_mask n k ≡ true) (masks n) mask (each_passes (passes_mask n) (masks n) (every n some few)) listed in
      let all = words 1 (length (keep mask (below n))) in
      of_has (λ u. passes_extended n mask u ≡ true) all w (each_passes (passes_extended n mask) all here) there

  parts : (w : Word) → Has w (words 1 (length (keep mask (below n)))) → (passes_word n (extended mask w) ≡ true) × (same_rows (keep mask (rows (below n) (extended mask w))) (rows (keep mask (below n)) w) ≡ true)
  parts w there = and_parts (passes_word n (extended mask w)) (same_rows (keep mask (rows (below n) (extended mask w))) (rows (keep mask (below n)) w)) (passed w there)

  extended_word : (w : Word) → Has w (words 1 (length (keep mask (below n)))) → Has (extended mask w) (words 1 n)
  extended_word w there = is_a_word n (extended mask w) (parts w there).0

  -- ---- rounds

  extended_round : (old : List View) → length old ≡ n → (w : Word) → Has w (words 1 (length (keep mask (below n)))) → keep mask (round old (extended mask w)) ≡ round (keep mask old) w
  extended_round old olds w there =
      let g = at old in
      let whole : map g (below n) ≡ old = subst (λ k. map g (below k) ≡ old) olds (by_place old (base 0 0)) in
      ap (λ vs. keep mask (round vs (extended mask w))) (sym whole)
      ∙ ap (keep mask) (round_rows g (below n) (extended mask w))
      ∙ keep_map (view_of g) mask (rows (below n) (extended mask w))
      ∙ ap (map (view_of g)) (rows_equal (keep mask (rows (below n) (extended mask w))) (rows (keep mask (below n)) w) (parts w there).1)
      ∙ sym (round_rows g (keep mask (below n)) w)
      ∙ ap (λ vs. round vs w) (sym (keep_map g mask (below n)) ∙ ap (keep mask) whole)

  extended_rounds : (ws : List Word) (old : List View) → length old ≡ n → AllByRecursion (λ w. Has w (words 1 (length (keep mask (below n))))) ws →
      keep mask (fold round old (map (extended mask) ws)) ≡ fold round (keep mask old) ws
  extended_rounds [] old olds h = refl
  extended_rounds (w ∷ ws) old olds h =
      let word_long = of_has (λ u. length u ≡ n) (words 1 n) (extended mask w) (words_long 1 n) (extended_word w h.0) in
      extended_rounds ws (round old (extended mask w)) (round_long (extended mask w) old (word_long ∙ sym olds) ∙ olds) h.1
      ∙ ap (λ vs. fold round vs ws) (extended_round old olds w h.0)

  -- an execution of the kept ones, and one of all with their views
  pub extended_run : (r k : ℕ) (ws : List Word) (old : List View) → length old ≡ n → length (keep mask old) ≡ k → AreOf (words 1 k) r ws →
      AreOf (words 1 n) r (map (extended mask) ws) × (keep mask (fold round old (map (extended mask) ws)) ≡ fold round (keep mask old) ws)
  extended_run r k ws old olds kept run =
      let same : k ≡ length (keep mask (below n)) = sym kept ∙ length_keep mask old (below n) (olds ∙ sym (length-below n)) in
      let there = subst (λ j. AllByRecursion (λ w. Has w (words 1 j)) ws) same run.1 in (
        (length-map ws (extended mask) ∙ run.0, each_map (λ w. Has w (words 1 n)) (extended mask) ws (each (λ w. Has w (words 1 (length (keep mask (below n))))) (λ w. Has (extended mask w) (words 1 n)) (λ w h. extended_word w h) ws there)),
        extended_rounds ws old olds there,
      )
