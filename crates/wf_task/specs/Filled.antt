-- A row kept as four numbers, those past its size 0.
use Rattle.std.specs.Prelude.{ℕ, List, [], ◌∷◌, ◌++◌, take}

-- the values, filled up to four by zeros
abbrev pub filled : List ℕ → List ℕ
filled values = take 4 (values ++ 0 ∷ 0 ∷ 0 ∷ 0 ∷ [])
