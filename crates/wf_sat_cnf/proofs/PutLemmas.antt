-- What is left before a clause, and after it.
use Rattle.std.proofs.Common.{◌≡◌, ℕ, zero, suc, ◌+◌, ◌-◌, ◌<◌, ◌≤◌, List, [], ◌∷◌, ◌++◌, map, flat_map, zip, length, drop, get_or, min, refl, sym, ap, ◌∙◌, arith}
use Rattle.std.specs.List.{range_with_len}
use Rattle.std.proofs.Math.Seq.{drop-cons}
use Rattle.std.proofs.lemmas.List.Concat.{flat_map-append}
use Rattle.std.proofs.lemmas.Slice.Zip.{length-zip, get_or-zip}

-- the numbers from n on, below m
abbrev pub between_numbers : ℕ → ℕ → List ℕ
between_numbers n m = range_with_len n (m - n)

pub next_number : (n m : ℕ) → n < m → between_numbers n m ≡ n ∷ between_numbers (n + 1) m
next_number n m low = ap (range_with_len n) e
  where
    e : m - n ≡ suc (m - (n + 1))
    e = omega (arith, low)

pub no_number : (n m : ℕ) → m ≤ n → between_numbers n m ≡ []
no_number n m high = ap (range_with_len n) e
  where
    e : m - n ≡ 0
    e = omega (arith, high)

-- texts of things that numbers give
pub next_of : {X W : Type 0} (text : X → List W) (f : ℕ → X) (n m : ℕ) → n < m
    → flat_map text (map f (between_numbers n m)) ≡ text (f n) ++ flat_map text (map f (between_numbers (n + 1) m))
next_of text f n m low = ap (λ ns. flat_map text (map f ns)) (next_number n m low)

pub next_list_of : {X W : Type 0} (text : X → List W) (f : ℕ → List X) (n m : ℕ) → n < m
    → flat_map text (flat_map f (between_numbers n m)) ≡ flat_map text (f n) ++ flat_map text (flat_map f (between_numbers (n + 1) m))
next_list_of text f n m low =
    ap (λ ns. flat_map text (flat_map f ns)) (next_number n m low) ∙ flat_map-append text (f n) (flat_map f (between_numbers (n + 1) m))

-- the pairs of two lists from i on
pub next_entry : (xs ys : List ℕ) (i size a b : ℕ) → i < size → size ≡ min (length xs) (length ys) → a ≡ get_or xs i 0 → b ≡ get_or ys i 0
    → drop i (zip xs ys) ≡ (a, b) ∷ drop (i + 1) (zip xs ys)
next_entry xs ys i size a b low is first second =
    let inside : i < length (zip xs ys) = omega (arith, low, is, length-zip xs ys) in
    let pair : get_or (zip xs ys) i (0, 0) ≡ (a, b) = get_or-zip xs ys i (0, 0) (omega (arith, low, is)) (omega (arith, low, is)) ∙ (λ j. (sym first j, sym second j)) in
    drop-cons (zip xs ys) i (0, 0) inside ∙ ap (λ e. e ∷ drop (suc i) (zip xs ys)) pair ∙ ap (λ n. (a, b) ∷ drop n (zip xs ys)) e
  where
    e : suc i ≡ i + 1
    e = omega arith

-- the items of a list from i on, by what is seen of them
pub next_seen : {X Y Z W : Type 0} (text : Z → List W) (f : Y → Z) (seen : X → Y) (xs : List X) (i : ℕ) (x : X) → i < length xs → x ≡ get_or xs i x
    → flat_map text (map f (map seen (drop i xs))) ≡ text (f (seen x)) ++ flat_map text (map f (map seen (drop (i + 1) xs)))
next_seen text f seen xs i x low is =
    ap (λ ys. flat_map text (map f (map seen ys))) (drop-cons xs i x low ∙ ap (λ y. y ∷ drop (suc i) xs) (sym is) ∙ ap (λ n. x ∷ drop n xs) e)
  where
    e : suc i ≡ i + 1
    e = omega arith

-- nothing stands past the end of a list
pub none_after : {X : Type 0} (n : ℕ) (xs : List X) → length xs ≤ n → drop n xs ≡ []
none_after zero [] h = refl
none_after zero (x ∷ xs) h = absurd (let none : ⊥ = omega (arith, h) in none)
none_after (suc n) [] h = refl
none_after (suc n) (x ∷ xs) h = none_after n xs (omega (arith, h))
