-- Support asks for candidates: a value that its place lacks has none.
use Rattle.std.proofs.Common.{◌≡◌, ℕ, zero, suc, ◌==◌, List, [], ◌∷◌, Bool, true, false, ◌&&◌, refl, ◌∙◌, ap, eqb-true}
use Rattle.std.specs.Cmp.Lexicographic.{pointwise}
use Rattle.std.proofs.lemmas.Bool.{and_right, or_from}
use Rattle.wf_model.specs.Lists.{has}
use Rattle.wf_model.specs.Task.{Tuple}
use Rattle.wf_model.specs.Box.{candidates, has_at, is_alive, is_supported}

-- a test that fails beside another one
between : (p q r : Bool) → (p && r) ≡ false → (p && (q && r)) ≡ false
between true true r h = h
between true false r h = refl
between false q r h = refl

-- no tuple with this value is alive
no_tuple : (sets : List (List ℕ)) (tuple : Tuple) (place value : ℕ) → has (candidates sets place) value ≡ false → (has_at tuple place value && is_alive sets tuple) ≡ false
no_tuple sets [] place value h = refl
no_tuple [] (x ∷ xs) place value h = and_right (has_at (x ∷ xs) place value) false refl
no_tuple (set ∷ sets) (x ∷ xs) zero value h = by_test (x == value) refl
  where
    by_test : (b : Bool) → (x == value) ≡ b → (b && (has set x && pointwise has sets xs)) ≡ false
    by_test true e = ap (λ v. has set v && pointwise has sets xs) (eqb-true x value e) ∙ ap (λ b. b && pointwise has sets xs) h
    by_test false e = refl
no_tuple (set ∷ sets) (x ∷ xs) (suc place) value h = between (has_at xs place value) (has set x) (pointwise has sets xs) (no_tuple sets xs place value h)

pub no_support : (tuples : List Tuple) (sets : List (List ℕ)) (place value : ℕ) → has (candidates sets place) value ≡ false → is_supported tuples sets place value ≡ false
no_support [] sets place value h = refl
no_support (tuple ∷ tuples) sets place value h = or_from (has_at tuple place value && is_alive sets tuple) (is_supported tuples sets place value) (no_tuple sets tuple place value h) (no_support tuples sets place value h)
