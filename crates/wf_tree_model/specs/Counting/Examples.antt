-- Worked examples, by computation.
use Rattle.std.specs.Prelude.{◌≡◌, ℕ, true, false, List, [], ◌∷◌, map, refl}
use Rattle.wf_model.specs.Lists.{below}
use Rattle.wf_model.specs.View.{View, base_views}
use Rattle.wf_tree_model.specs.Counting.Signs.{evens, is_even, is_even_word, keep, odds}

-- ---- signs

-- one participant has one block
pub word_of_one : is_even_word (0 ∷ []) ≡ true
word_of_one = refl

-- of two, both orders have two blocks, and together they have one
pub words_of_two : map is_even_word ((0 ∷ 1 ∷ []) ∷ (1 ∷ 0 ∷ []) ∷ (0 ∷ 0 ∷ []) ∷ []) ≡ true ∷ true ∷ false ∷ []
words_of_two = refl

-- of three, one block is even, and so are three blocks; two are not
pub words_of_three : map is_even_word ((0 ∷ 0 ∷ 0 ∷ []) ∷ (2 ∷ 0 ∷ 1 ∷ []) ∷ (0 ∷ 1 ∷ 1 ∷ []) ∷ []) ≡ true ∷ true ∷ false ∷ []
words_of_three = refl

-- two odd words make an even execution
pub even_of_two_rounds : is_even ((0 ∷ 0 ∷ []) ∷ (0 ∷ 0 ∷ []) ∷ []) ≡ true
even_of_two_rounds = refl

-- a face of three participants, without the middle one
pub outer_two : keep {X = ℕ} (true ∷ false ∷ true ∷ []) (5 ∷ 6 ∷ 7 ∷ []) ≡ 5 ∷ 7 ∷ []
outer_two = refl

abbrev one : List View → ℕ
one vs = 1

-- the processes below n, each with input 0
abbrev zeros : ℕ → List View
zeros n = base_views (map (λ p. (p, 0)) (below n))

-- of 13 executions of three in one round 7 are even, of 75 of four 38, and of 9 of two in two
-- rounds 5
pub three_in_one_round : evens one 1 (zeros 3) ∷ odds one 1 (zeros 3) ∷ [] ≡ 7 ∷ 6 ∷ []
three_in_one_round = refl

pub four_in_one_round : evens one 1 (zeros 4) ∷ odds one 1 (zeros 4) ∷ [] ≡ 38 ∷ 37 ∷ []
four_in_one_round = refl

pub two_in_two_rounds : evens one 2 (zeros 2) ∷ odds one 2 (zeros 2) ∷ [] ≡ 5 ∷ 4 ∷ []
two_in_two_rounds = refl
