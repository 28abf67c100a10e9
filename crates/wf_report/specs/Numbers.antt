-- Digits, read from the front.
use Rattle.std.specs.Prelude.{ℕ, ◌+◌, ◌-◌, ◌*◌, ◌==◌, ◌&&◌, nat_le, Bool, true, not, List, [], ◌∷◌, length, fold, Option, Some, None, if◌then◌else◌}
use Rattle.std.specs.List.{list_all}

abbrev pub is_digit : ℕ → Bool
is_digit c = nat_le 48 c && nat_le c 57

-- the number with further digits
abbrev pub with_digits : ℕ → List ℕ → ℕ
with_digits n ds = fold (λ n c. 10 * n + (c - 48)) n ds

-- the same, if they are digits and it is at most this
abbrev pub digits_upto : ℕ → ℕ → List ℕ → Option ℕ
digits_upto most n ds =
    if list_all is_digit ds && nat_le (with_digits n ds) most then Some (with_digits n ds) else None

-- nothing, or a 0 before another byte
abbrev pub is_misspelt : List ℕ → Bool
is_misspelt [] = true
is_misspelt (d ∷ ds) = d == 48 && not (length ds == 0)
