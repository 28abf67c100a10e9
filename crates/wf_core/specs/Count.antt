-- How often numbers stand in lists: the words by which branches are counted.
use Rattle.std.specs.Prelude.{ℕ, ◌+◌, List, [], ◌∷◌, cond, nat_eq, nat_lt}

-- how often x stands in the list
abbrev pub times : ℕ → List ℕ → ℕ
times x [] = 0
times x (y ∷ ys) = cond (nat_eq x y) 1 0 + times x ys

-- 1 where x is below b, and else 0: how often x stands among the numbers below b
abbrev pub once_below : ℕ → ℕ → ℕ
once_below x b = cond (nat_lt x b) 1 0

-- f of each, added up
abbrev pub total : {V : Type 0} → (V → ℕ) → List V → ℕ
total f [] = 0
total f (v ∷ vs) = f v + total f vs

-- how often x stands in the lists of all
abbrev pub times_in : {V : Type 0} → (V → List ℕ) → ℕ → List V → ℕ
times_in f x vs = total (λ v. times x (f v)) vs
