-- Lists in words, and the lines that multipliers make.
use Rattle.std.specs.Prelude.{ℕ, ◌==◌, ◌&&◌, Bool, List, [], ◌∷◌, ◌++◌, if◌then◌else◌}
use Rattle.wf_tree_model.specs.Balance.{Multiplier}

-- the texts of a list's elements, with a text between each two, and another one between the last
-- two
abbrev pub others_text : {X : Type 0} → (X → List ℕ) → List ℕ → List ℕ → List X → List ℕ
others_text text between last [] = []
others_text text between last (x ∷ []) = last ++ text x
others_text text between last (x ∷ y ∷ more) = between ++ (text x ++ others_text text between last (y ∷ more))

abbrev pub list_text : {X : Type 0} → (X → List ℕ) → List ℕ → List ℕ → List X → List ℕ
list_text text between last [] = []
list_text text between last (x ∷ more) = text x ++ others_text text between last more

-- ---- lines

-- whether two multipliers go into one line: they have one simplex, one place and one weight
abbrev pub same_line : Multiplier → Multiplier → Bool
same_line x y = ((x.simplex == y.simplex) && (x.place == y.place)) && (x.weight == y.weight)

-- a multiplier in front of these lines: in the first line, if it goes there
abbrev pub with_multiplier : Multiplier → List (List Multiplier) → List (List Multiplier)
with_multiplier x [] = (x ∷ []) ∷ []
with_multiplier x ([] ∷ lines) = (x ∷ []) ∷ lines
with_multiplier x ((y ∷ ys) ∷ lines) = if same_line x y then (x ∷ y ∷ ys) ∷ lines else (x ∷ []) ∷ (y ∷ ys) ∷ lines

-- the multipliers of each line, where those of a line follow each other
abbrev pub lines_of : List Multiplier → List (List Multiplier)
lines_of [] = []
lines_of (x ∷ xs) = with_multiplier x (lines_of xs)
