-- Sums, signs and masks.
use Rattle.std.proofs.Common.{◌≡◌, ℕ, ◌+◌, not, Bool, true, false, List, [], ◌∷◌, ◌++◌, map, flat_map, refl, ap, ◌∙◌, arith}
use Rattle.std.specs.List.{AllByRecursion}
use Rattle.wf_tree_model.specs.Counting.Signs.{same_sign, total, keep}

-- ---- signs

pub twice : (a b c : Bool) → same_sign a (same_sign b c) ≡ same_sign (same_sign a b) c
twice true b c = refl
twice false true c = refl
twice false false true = refl
twice false false false = refl

pub turned_later : (a b : Bool) → same_sign a (not b) ≡ not (same_sign a b)
turned_later true b = refl
turned_later false b = refl

pub not_not : (a : Bool) → not (not a) ≡ a
not_not true = refl
not_not false = refl

-- ---- sums

pub total_append : {X : Type 0} (f : X → ℕ) (xs ys : List X) → total f (xs ++ ys) ≡ total f xs + total f ys
total_append f [] ys = omega arith
total_append f (x ∷ xs) ys = let e = total_append f xs ys in omega (arith, e)

pub total_map : {X Y : Type 0} (f : Y → ℕ) (g : X → Y) (xs : List X) → total f (map g xs) ≡ total (λ x. f (g x)) xs
total_map f g [] = refl
total_map f g (x ∷ xs) = ap (λ n. f (g x) + n) (total_map f g xs)

pub total_same : {X : Type 0} (f g : X → ℕ) (xs : List X) → ((x : X) → f x ≡ g x) → total f xs ≡ total g xs
total_same f g [] h = refl
total_same f g (x ∷ xs) h = let e = total_same f g xs h in let d = h x in omega (arith, d, e)

pub total_flat : {X Y : Type 0} (f : Y → ℕ) (g : X → List Y) (xs : List X) → total f (flat_map g xs) ≡ total (λ x. total f (g x)) xs
total_flat f g [] = refl
total_flat f g (x ∷ xs) = total_append f (g x) (flat_map g xs) ∙ ap (λ n. total f (g x) + n) (total_flat f g xs)

pub total_none : {X : Type 0} (xs : List X) → total (λ x. 0) xs ≡ 0
total_none [] = refl
total_none (x ∷ xs) = let e = total_none xs in omega (arith, e)

pub total_add : {X : Type 0} (f g : X → ℕ) (xs : List X) → total (λ x. f x + g x) xs ≡ total f xs + total g xs
total_add f g [] = refl
total_add f g (x ∷ xs) = let e = total_add f g xs in omega (arith, e)

-- balances add up
pub total_balanced : {X : Type 0} (a b c d : X → ℕ) (xs : List X) → AllByRecursion (λ x. a x + b x ≡ c x + d x) xs →
    total a xs + total b xs ≡ total c xs + total d xs
total_balanced a b c d [] h = refl
total_balanced a b c d (x ∷ xs) h = let here = h.0 in let e = total_balanced a b c d xs h.1 in omega (arith, here, e)

-- ---- masks

pub keep_map : {X Y : Type 0} (f : X → Y) (mask : List Bool) (xs : List X) → keep mask (map f xs) ≡ map f (keep mask xs)
keep_map f [] xs = refl
keep_map f (kept ∷ mask) [] = refl
keep_map f (true ∷ mask) (x ∷ xs) = ap (λ ys. f x ∷ ys) (keep_map f mask xs)
keep_map f (false ∷ mask) (x ∷ xs) = keep_map f mask xs
