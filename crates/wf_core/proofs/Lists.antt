-- Lists read by `slice_get`, after a write.
use Rattle.std.proofs.Common.{◌≡◌, ◌≢◌, ◌⊎◌, ℕ, zero, suc, List, [], ◌∷◌, ◌++◌, length, set, replicate, take, refl, sym, ap, ◌∙◌, subst, ⊎_elim, inl, inr, arith, ◌+◌, ◌≤◌, append_assoc, length-append}
use Rattle.std.specs.Prelude.{Some, slice_get, All, Contains}
use Rattle.std.proofs.lemmas.List.Elements.{All-contains, Contains-append_left, Contains-push}
use Rattle.std.proofs.lemmas.Option.{none-some, same_Some}
use mathlib.Core.Option.{some, some-ne-none}
use lib.ListN.{get_elem?}

module _ {A : Type 0} where
  pub set_at : (l : List A) (i : ℕ) (a b : A) → slice_get l i ≡ Some a → slice_get (set l i b) i ≡ Some b
  set_at [] i a b e = absurd (none-some a e)
  set_at (x ∷ xs) zero a b e = refl
  set_at (x ∷ xs) (suc i) a b e = set_at xs i a b e

  pub set_else : (l : List A) (i j : ℕ) (b : A) → j ≢ i → slice_get (set l i b) j ≡ slice_get l j
  set_else [] i j b n = refl
  set_else (x ∷ xs) zero zero b n = absurd (n refl)
  set_else (x ∷ xs) zero (suc j) b n = refl
  set_else (x ∷ xs) (suc i) zero b n = refl
  set_else (x ∷ xs) (suc i) (suc j) b n = set_else xs i j b (λ e. n (ap suc e))

  -- what stands at a place after a write
  pub at_set : (l : List A) (i j : ℕ) (b c : A) → slice_get (set l i b) j ≡ Some c → ((j ≡ i) × (b ≡ c)) ⊎ ((j ≢ i) × (slice_get l j ≡ Some c))
  at_set [] i j b c e = absurd (none-some c e)
  at_set (x ∷ xs) zero zero b c e = inl (refl, same_Some b c e)
  at_set (x ∷ xs) zero (suc j) b c e = inr ((λ h. omega arith), e)
  at_set (x ∷ xs) (suc i) zero b c e = inr ((λ h. omega arith), e)
  at_set (x ∷ xs) (suc i) (suc j) b c e =
      ⊎_elim (λ t. inl (ap suc t.0, t.1)) (λ t. let n = t.0 in inr ((λ h. n (omega arith)), t.1)) (at_set xs i j b c e)

  pub at_replicate : (n : ℕ) (a b : A) (i : ℕ) → slice_get (replicate n a) i ≡ Some b → a ≡ b
  at_replicate zero a b i e = absurd (none-some b e)
  at_replicate (suc n) a b zero e = same_Some a b e
  at_replicate (suc n) a b (suc i) e = at_replicate n a b i e

  -- the place past a list's end is that of the element that is put there
  pub at_end : (l m : List A) (a : A) → slice_get (l ++ a ∷ m) (length l) ≡ Some a
  at_end [] m a = refl
  at_end (x ∷ xs) m a = at_end xs m a

  pub take_next : (l : List A) (i : ℕ) (a : A) → slice_get l i ≡ Some a → take (suc i) l ≡ take i l ++ a ∷ []
  take_next [] i a e = absurd (none-some a e)
  take_next (x ∷ xs) zero a e = λ k. same_Some x a e k ∷ []
  take_next (x ∷ xs) (suc i) a e = ap (λ (l : List A). x ∷ l) (take_next xs i a e)

  -- `set_at`, by the logic's look-up
  pub put_at : (l : List A) (i : ℕ) (a b : A) → get_elem? l i ≡ some a → get_elem? (set l i b) i ≡ some b
  put_at [] i a b e = absurd (some-ne-none a (sym e))
  put_at (x ∷ xs) zero a b e = refl
  put_at (x ∷ xs) (suc i) a b e = put_at xs i a b e

  -- a loop pops the list xs from its end, and has done the rest: what it pops
  -- stands in the whole list
  pub popped_has : (P : A → Type 0) (whole xs ys done : List A) (x : A) → whole ≡ xs ++ done → xs ≡ ys ++ x ∷ [] → All P whole → P x
  popped_has P whole xs ys done x e f all = All-contains P whole x all
      (subst (λ (l : List A). Contains l x) (sym (e ∙ ap (λ (l : List A). l ++ done) f)) (Contains-append_left (ys ++ x ∷ []) done x (Contains-push ys x)))

  pub popped_is : (whole xs ys done : List A) (x : A) → whole ≡ xs ++ done → xs ≡ ys ++ x ∷ [] → whole ≡ ys ++ x ∷ done
  popped_is whole xs ys done x e f = e ∙ ap (λ (l : List A). l ++ done) f ∙ append_assoc ys (x ∷ []) done

  pub popped_length : (whole ys done : List A) (x : A) → whole ≡ ys ++ x ∷ done → length done + 1 ≤ length whole
  popped_length whole ys done x e = let a = ap length e in let b = length-append ys (x ∷ done) in omega arith
