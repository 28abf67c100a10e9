-- Up to four numbers and the zeros past them.
use Rattle.std.proofs.Common.{◌≡◌, ◌-◌, ◌≤◌, ℕ, List, [], ◌∷◌, ◌++◌, length, take, replicate, refl, ap, ◌∙◌, arith, take_all}
use Rattle.wf_tree_steps.specs.Balance.Filled.{filled}

pub append-replicate : (xs : List ℕ) → length xs ≤ 3 → xs ++ replicate (3 - length xs) 0 ≡ filled xs
append-replicate [] h = refl
append-replicate (a ∷ []) h = refl
append-replicate (a ∷ b ∷ []) h = refl
append-replicate (a ∷ b ∷ c ∷ []) h = refl
append-replicate (a ∷ b ∷ c ∷ d ∷ xs) h = absurd (omega arith)

pub take-filled : (xs : List ℕ) → length xs ≤ 3 → take (length xs) (filled xs) ≡ xs
take-filled [] h = refl
take-filled (a ∷ []) h = refl
take-filled (a ∷ b ∷ []) h = refl
take-filled (a ∷ b ∷ c ∷ []) h = refl
take-filled (a ∷ b ∷ c ∷ d ∷ xs) h = absurd (omega arith)

pub length-filled : (xs : List ℕ) → length xs ≤ 3 → length (filled xs) ≡ 3
length-filled [] h = refl
length-filled (a ∷ []) h = refl
length-filled (a ∷ b ∷ []) h = refl
length-filled (a ∷ b ∷ c ∷ []) h = refl
length-filled (a ∷ b ∷ c ∷ d ∷ xs) h = absurd (omega arith)

-- what the loop leaves, once it went through all values
pub is_filled : (xs row : List ℕ) (i : ℕ) → length xs ≤ 3 → length xs ≤ i → i ≤ length xs → row ≡ take i xs ++ replicate (3 - i) 0 → row ≡ filled xs
is_filled xs row i few past upto is =
    let all : i ≡ length xs = omega arith in
    is ∙ ap (λ n. take n xs ++ replicate (3 - n) 0) all ∙ ap (λ ys. ys ++ replicate (3 - length xs) 0) (take_all (length xs) xs (omega arith)) ∙ append-replicate xs few
