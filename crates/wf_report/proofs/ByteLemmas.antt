-- Digits.
use Rattle.std.proofs.Common.{◌≡◌, ℕ, ◌+◌, ◌-◌, ◌*◌, ◌<◌, ◌≤◌, ◌&&◌, nat_le, List, [], ◌∷◌, Bool, true, false, cond, Some, None, refl, ◌∙◌, ap, arith}
use Rattle.std.specs.List.{list_all}
use Rattle.std.proofs.lemmas.Bool.{lt-leb}
use Rattle.wf_report.specs.Numbers.{is_digit, with_digits, digits_upto}

-- ---- digits

pub grows : (n : ℕ) (ds : List ℕ) → n ≤ with_digits n ds
grows n [] = omega arith
grows n (d ∷ ds) =
    let rest = grows (10 * n + (d - 48)) ds in
    omega (arith, rest)

-- a first digit
pub digit_taken : (most n d : ℕ) (ds : List ℕ) → is_digit d ≡ true → digits_upto most n (d ∷ ds) ≡ digits_upto most (10 * n + (d - 48)) ds
digit_taken most n d ds is = ap (λ b. cond (b && list_all is_digit ds && nat_le (with_digits (10 * n + (d - 48)) ds) most) (Some (with_digits (10 * n + (d - 48)) ds)) None) is

-- a number that is too large already
pub too_large : (most n : ℕ) (ds : List ℕ) → most < n → digits_upto most n ds ≡ None
too_large most n ds h =
    let rest = grows n ds in
    by_test (list_all is_digit ds) (nat_le (with_digits n ds) most) (with_digits n ds) (lt-leb (with_digits n ds) most (omega (arith, rest, h)))
  where
    by_test : (a b : Bool) (m : ℕ) → b ≡ false → cond (a && b) (Some m) None ≡ None
    by_test a b m e = ap (λ b. cond (a && b) (Some m) None) e ∙ none_by a m
      where
        none_by : (a : Bool) (m : ℕ) → cond (a && false) (Some m) None ≡ None
        none_by true m = refl
        none_by false m = refl
