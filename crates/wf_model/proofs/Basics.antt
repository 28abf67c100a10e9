-- Facts on numbers and lists that std lacks.
use Rattle.std.proofs.Common.{◌≡◌, ℕ, zero, suc, ◌+◌, ◌<◌, ◌==◌, ◌&&◌, ◌||◌, Bool, true, false, List, [], ◌∷◌, ◌++◌, map, filter, take, drop, length, get_or, Option, Some, None, option_map, refl, sym, ap, ◌∙◌, arith, ⊎_elim}
use Rattle.std.specs.Int.Bits.{bit_or}
use Rattle.std.specs.List.{range_with_len}
use Rattle.std.proofs.lemmas.List.{map-id, drop_all, drop_more}
use Rattle.std.proofs.lemmas.List.FromFn.{map-range_with_len_more, length-range_with_len}
use Rattle.std.specs.Ordering.{nat_cmp}
use Rattle.std.specs.declared.cmp.Ordering.TheVariants.{Less}
use Rattle.std.proofs.lemmas.Bool.{cases_eq, eq-eqb, eqb-true, lt-ltb, ne_eqb}
use Rattle.std.proofs.lemmas.Map.Views.{any-filter_same}
use Rattle.std.proofs.lemmas.Nat.Bits.{bit_at_or, same_from_bits}
use Rattle.wf_model.specs.Lists.{below, has}
use Rattle.wf_model.specs.Task.{Tuple}
use Rattle.wf_model.specs.Box.{has_at}

-- one number more
pub below_next : (n : ℕ) → below (n + 1) ≡ below n ++ n ∷ []
below_next n = sym (map-id (below (n + 1))) ∙ map-range_with_len_more (λ (x : ℕ). x) 0 n n (omega arith) ∙ ap (λ xs. xs ++ n ∷ []) (map-id (below n))

pub or_assoc : (a b c : ℕ) → bit_or (bit_or a b) c ≡ bit_or a (bit_or b c)
or_assoc a b c = same_from_bits _ _ (λ i. omega (arith, bit_at_or (bit_or a b) c i, bit_at_or a b i, bit_at_or a (bit_or b c) i, bit_at_or b c i))

rest_by_place : {X : Type 0} (xs : List X) (d : X) (n a : ℕ) → a + n ≡ length xs → map (λ j. get_or xs j d) (range_with_len a n) ≡ drop a xs
rest_by_place xs d zero a e = sym (drop_all a xs (omega (arith, e)))
rest_by_place xs d (suc n) a e =
    ap (λ ys. get_or xs a d ∷ ys) (rest_by_place xs d n (a + 1) (omega (arith, e))) ∙ sym (drop_more xs a d (omega (arith, e)))

-- a list is what stands at its places
pub by_place : {X : Type 0} (xs : List X) (d : X) → map (λ j. get_or xs j d) (below (length xs)) ≡ xs
by_place xs d = rest_by_place xs d (length xs) 0 (omega arith)

-- ---- truth values

pub and_turned : (a b : Bool) → (a && b) ≡ (b && a)
and_turned true true = refl
and_turned true false = refl
and_turned false true = refl
and_turned false false = refl

pub or_none : (b : Bool) → (b || false) ≡ b
or_none true = refl
or_none false = refl

pub equal_turned : (a b : ℕ) → (a == b) ≡ (b == a)
equal_turned a b = ⊎_elim (λ (e : a ≡ b). eq-eqb a b e ∙ sym (eq-eqb b a (sym e))) (λ (ne : a ≡ b → ⊥). ne_eqb a b ne ∙ sym (ne_eqb b a (λ e. ne (sym e)))) (cases_eq a b)

pub suc_not_zero : (n : ℕ) → (suc n == 0) ≡ false
suc_not_zero n = ne_eqb (suc n) 0 (λ e. absurd (omega (arith, e)))

pub nat_cmp-Less : (x y : ℕ) → x < y → nat_cmp x y ≡ Less
nat_cmp-Less x y h = rw (lt-ltb x y h) refl

pub some_of : {X Y : Type 0} (f : X → Y) (o : Option X) (y : Y) → option_map f o ≡ Some y → (x : X) × (o ≡ Some x) × (f x ≡ y)
some_of f None y h = absurd (let bad : ⊥ = cc in bad)
some_of f (Some x) y h = (x, refl, cc)

-- ---- numbers and values in lists

pub length-below : (n : ℕ) → length (below n) ≡ n
length-below n = length-range_with_len 0 n

-- a filter finds what passes and was there
pub has-filter : (p : ℕ → Bool) (xs : List ℕ) (v : ℕ) → has (filter p xs) v ≡ (p v && has xs v)
has-filter p xs v = any-filter_same (λ y. y == v) p (p v) (λ k e. ap p (eqb-true k v e)) xs

-- the first values of a tuple
pub has_at-take : (row : Tuple) (n place v : ℕ) → place < n → has_at (take n row) place v ≡ has_at row place v
has_at-take row zero place v h = absurd (omega (arith, h))
has_at-take [] (suc n) place v h = refl
has_at-take (x ∷ xs) (suc n) zero v h = refl
has_at-take (x ∷ xs) (suc n) (suc place) v h = has_at-take xs n place v (omega (arith, h))
