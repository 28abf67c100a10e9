-- Simplices with the same values, place by place.
use Rattle.std.proofs.Common.{◌≡◌, ℕ, zero, suc, ◌==◌, ◌<◌, Bool, true, false, [], ◌∷◌, get_or, length, refl, arith}
use Rattle.std.specs.Cmp.Lexicographic.{pointwise}
use Rattle.std.proofs.lemmas.Bool.{and_from, and_left, and_right, eq-eqb, ne_eqb}
use Rattle.wf_model.specs.Simplex.{Simplex, Vertex, values_of}

abbrev pub same_input : Vertex → Vertex → Bool
same_input v w = v.1 == w.1

pub all_alike : (s u : Simplex) → length s ≡ length u → ((i : ℕ) → i < length s → get_or (values_of s) i 0 ≡ get_or (values_of u) i 0) → pointwise same_input s u ≡ true
all_alike [] [] long h = refl
all_alike [] (w ∷ u) long h = absurd (let bad : ⊥ = omega (arith, long) in bad)
all_alike (v ∷ s) [] long h = absurd (let bad : ⊥ = omega (arith, long) in bad)
all_alike (v ∷ s) (w ∷ u) long h = and_from (v.1 == w.1) (pointwise same_input s u) (eq-eqb v.1 w.1 (h 0 (omega arith))) (all_alike s u (omega (arith, long)) (λ i low. h (suc i) (omega (arith, low))))

pub other_value : (s u : Simplex) (i : ℕ) → i < length s → length s ≡ length u → (get_or (values_of s) i 0 ≡ get_or (values_of u) i 0 → ⊥) → pointwise same_input s u ≡ false
other_value [] u i low long h = absurd (let bad : ⊥ = omega (arith, low) in bad)
other_value (v ∷ s) [] i low long h = absurd (let bad : ⊥ = omega (arith, long) in bad)
other_value (v ∷ s) (w ∷ u) zero low long h = and_left (v.1 == w.1) (pointwise same_input s u) (ne_eqb v.1 w.1 h)
other_value (v ∷ s) (w ∷ u) (suc i) low long h = and_right (v.1 == w.1) (pointwise same_input s u) (other_value s u i (omega (arith, low)) (omega (arith, long)) h)
