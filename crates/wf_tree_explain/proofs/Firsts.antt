-- The first of a list.
use Rattle.std.proofs.Common.{◌≡◌, ◌<◌, List, [], ◌∷◌, length, get_or, refl, arith}
use Rattle.wf_tree_model.specs.Balance.{Multiplier}
use Rattle.wf_tree_explain.specs.Words.{first_of}

pub first_is : (xs : List Multiplier) (d : Multiplier) → 0 < length xs → get_or xs 0 d ≡ first_of xs
first_is [] d some = absurd (let none : ⊥ = omega (arith, some) in none)
first_is (x ∷ xs) d some = refl
