-- The value of a tuple at a place.
use Rattle.std.proofs.Common.{◌≡◌, ℕ, zero, suc, ◌<◌, ◌≤◌, ◌==◌, List, [], ◌∷◌, get_or, length, false, refl, arith}
use Rattle.wf_model.specs.Box.{has_at}

-- past its end a tuple has no value
pub has_at_past : (tuple : List ℕ) (c a : ℕ) → length tuple ≤ c → has_at tuple c a ≡ false
has_at_past [] c a past = refl
has_at_past (x ∷ xs) zero a past = absurd (omega (arith, past))
has_at_past (x ∷ xs) (suc c) a past = has_at_past xs c a (omega (arith, past))

pub has_at_place : (tuple : List ℕ) (c a : ℕ) → c < length tuple → has_at tuple c a ≡ (get_or tuple c 0 == a)
has_at_place [] c a low = absurd (omega (arith, low))
has_at_place (x ∷ xs) zero a low = refl
has_at_place (x ∷ xs) (suc c) a low = has_at_place xs c a (omega (arith, low))
