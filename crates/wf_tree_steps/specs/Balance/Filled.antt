-- Values kept as three numbers, those past their count 0.
use Rattle.std.specs.Prelude.{ℕ, List, [], ◌∷◌, ◌++◌, take}

-- the values, filled up to three by zeros
abbrev pub filled : List ℕ → List ℕ
filled values = take 3 (values ++ 0 ∷ 0 ∷ 0 ∷ [])
