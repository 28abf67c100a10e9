-- Signs of executions: the sign of an execution of n participants after r rounds is that of n * r
-- less the number of blocks in all its words.
use Rattle.std.specs.Prelude.{ℕ, suc, ◌+◌, ◌%◌, ◌==◌, max, not, Bool, true, false, List, [], ◌∷◌, length, fold, if◌then◌else◌}
use Rattle.wf_model.specs.Lists.{lists_of}
use Rattle.wf_model.specs.Word.{Word, words}
use Rattle.wf_model.specs.View.{View, round}

-- the product of two signs, where true is the positive one
abbrev pub same_sign : Bool → Bool → Bool
same_sign true b = b
same_sign false b = not b

-- how many blocks a word has
abbrev pub block_count : Word → ℕ
block_count [] = 0
block_count (b ∷ w) = max (suc b) (block_count w)

-- whether the number of participants and that of blocks differ by an even number
abbrev pub is_even_word : Word → Bool
is_even_word w = (length w + block_count w) % 2 == 0

-- whether the sign of an execution with these words is positive
abbrev pub is_even : List Word → Bool
is_even [] = true
is_even (w ∷ ws) = same_sign (is_even_word w) (is_even ws)

abbrev pub total : {X : Type 0} → (X → ℕ) → List X → ℕ
total f [] = 0
total f (x ∷ xs) = f x + total f xs

-- what the mask keeps of a list: where participants are kept, a face
abbrev pub keep : {X : Type 0} → List Bool → List X → List X
keep [] xs = xs
keep (kept ∷ mask) [] = []
keep (true ∷ mask) (x ∷ xs) = x ∷ keep mask xs
keep (false ∷ mask) (x ∷ xs) = keep mask xs

-- a function of the last views, added up over the executions of r rounds with a positive sign that
-- begin with these views
abbrev pub evens : (List View → ℕ) → ℕ → List View → ℕ
evens h r old = total (λ ws. if is_even ws then h (fold round old ws) else 0) (lists_of (words 1 (length old)) r)

-- the sum over those with a negative sign
abbrev pub odds : (List View → ℕ) → ℕ → List View → ℕ
odds h r old = total (λ ws. if not (is_even ws) then h (fold round old ws) else 0) (lists_of (words 1 (length old)) r)
