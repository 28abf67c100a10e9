-- How many different numbers a list has.
use Rattle.std.proofs.Common.{◌≡◌, ℕ, suc, ◌≤◌, ◌==◌, Bool, true, false, List, [], ◌∷◌, length, inl, inr, ◌⊎◌, refl, sym, ap, ◌∙◌, subst, arith, eqb-true, eq-eqb}
use Rattle.std.specs.declared.cmp.Ordering.{Ordering}
use Rattle.std.specs.declared.cmp.Ordering.TheVariants.{Less, Equal, Greater}
use Rattle.std.specs.Ordering.{nat_cmp, match_ordering}
use Rattle.std.specs.Cmp.{nat_cmp_total}
use Rattle.wf_model.specs.Lists.{in_order, with_element}
use Rattle.wf_model.specs.Presets.{different, all_different}
use Rattle.wf_simplex.specs.Order.{nat_cmp-Equal}
use Rattle.wf_simplex.proofs.Lemmas.{Has, has-in_order, in_order-has, sorted-in_order, in_order-same, length-in_order}
use Rattle.wf_task.proofs.Listings.{length-among}

length-with_new : (x : ℕ) (ys : List ℕ) → (Has x ys → ⊥) → length (with_element nat_cmp x ys) ≡ suc (length ys)
length-with_new x [] new = refl
length-with_new x (y ∷ ys) new = by (length-with_new x ys (λ h. new (inr h))) (nat_cmp x y) refl
  where
    by : length (with_element nat_cmp x ys) ≡ suc (length ys) → (o : Ordering) → nat_cmp x y ≡ o → length (match_ordering o (x ∷ y ∷ ys) (y ∷ ys) (y ∷ with_element nat_cmp x ys)) ≡ suc (suc (length ys))
    by later Less is = refl
    by later Equal is = absurd (new (inl (sym (nat_cmp-Equal x y is))))
    by later Greater is = ap suc later

-- one number more, which is there already
pub different-old : (x : ℕ) (xs : List ℕ) → Has x xs → different (x ∷ xs) ≡ different xs
different-old x xs h = ap length (in_order-same nat_cmp nat_cmp_total nat_cmp-Equal (x ∷ xs) xs forth (λ z g. inr g))
  where
    forth : (z : ℕ) → Has z (x ∷ xs) → Has z xs
    forth z (inl e) = subst (λ w. Has w xs) e h
    forth z (inr g) = g

-- one number more, which is new
pub different-new : (x : ℕ) (xs : List ℕ) → (Has x xs → ⊥) → different (x ∷ xs) ≡ suc (different xs)
different-new x xs new = length-with_new x (in_order nat_cmp xs) (λ h. new (has-in_order nat_cmp nat_cmp_total nat_cmp-Equal x xs h))

pub different-few : (xs : List ℕ) → different xs ≤ length xs
different-few xs = length-in_order nat_cmp xs

-- a list whose numbers another one has, has no more different numbers
pub different-among : (xs ys : List ℕ) → ((z : ℕ) → Has z xs → Has z ys) → different xs ≤ different ys
different-among xs ys f =
    length-among nat_cmp nat_cmp_total (in_order nat_cmp xs) (in_order nat_cmp ys) (sorted-in_order nat_cmp nat_cmp_total nat_cmp-Equal xs)
    (λ z h. in_order-has nat_cmp nat_cmp_total nat_cmp-Equal z ys (f z (has-in_order nat_cmp nat_cmp_total nat_cmp-Equal z xs h)))

pub has_or_not : (x : ℕ) (xs : List ℕ) → Has x xs ⊎ (Has x xs → ⊥)
has_or_not x [] = inr (λ h. h)
has_or_not x (y ∷ ys) = by (has_or_not x ys) (y == x) refl
  where
    by : Has x ys ⊎ (Has x ys → ⊥) → (b : Bool) → (y == x) ≡ b → Has x (y ∷ ys) ⊎ (Has x (y ∷ ys) → ⊥)
    by rest true is = inl (inl (eqb-true y x is))
    by (inl h) false is = inl (inr h)
    by (inr no_later) false is = inr (λ h. neither h)
      where
        neither : Has x (y ∷ ys) → ⊥
        neither (inl e) = let same : true ≡ false = sym (eq-eqb y x e) ∙ is in cc
        neither (inr h) = no_later h

-- each number is none of the later ones
abbrev pub Differ : List ℕ → Type 0
Differ [] = Unit {0}
Differ (x ∷ xs) = (Has x xs → ⊥) × Differ xs

pub all_different-from : (xs : List ℕ) → Differ xs → all_different xs ≡ true
all_different-from xs h = eq-eqb (different xs) (length xs) (count xs h)
  where
    count : (xs : List ℕ) → Differ xs → different xs ≡ length xs
    count [] h = refl
    count (x ∷ xs) h = different-new x xs h.0 ∙ ap suc (count xs h.1)

pub differ : (xs : List ℕ) → all_different xs ≡ true → Differ xs
differ [] h = tt
differ (x ∷ xs) h = by (has_or_not x xs) (λ e. differ xs (eq-eqb (different xs) (length xs) e))
  where
    whole : different (x ∷ xs) ≡ suc (length xs)
    whole = eqb-true (different (x ∷ xs)) (length (x ∷ xs)) h

    by : Has x xs ⊎ (Has x xs → ⊥) → (different xs ≡ length xs → Differ xs) → Differ (x ∷ xs)
    by (inl old) later = absurd (let none : ⊥ = omega (arith, different-old x xs old, whole, different-few xs) in none)
    by (inr new) later = (new, later (let e : different xs ≡ length xs = omega (arith, different-new x xs new, whole) in e))
