-- Keys tell apart tuples that differ elsewhere.
use Rattle.std.proofs.Common.{◌≡◌, ℕ, zero, suc, ◌+◌, ◌*◌, ◌^◌, ◌==◌, ◌||◌, ◌<◌, ◌≤◌, Bool, true, cond, List, [], ◌∷◌, drop, get_or, length, inl, inr, refl, sym, ap, ◌∙◌, subst, arith, drop-cons, length-drop}
use Rattle.std.specs.List.{AllByRecursion, list_all, range_with_len}
use Rattle.std.proofs.lemmas.Bool.{and_from, and_parts, cases_Bool, cases_eq, cond-true, cond-false, eq-eqb, eqb-true, ne_eqb, or_cases, or_left, or_right}
use Rattle.wf_tree_model.specs.Tuples.{agree_elsewhere, value_at}
use Rattle.wf_tree_refine.specs.Keys.{key_without}

abbrev pub AreBytes : List ℕ → Type 0
AreBytes xs = AllByRecursion (λ x. x ≤ 255) xs

-- what a place adds
abbrev pub shown : ℕ → ℕ → ℕ → ℕ
shown skipped place x = cond (place == skipped) 0 x

shown_small : (skipped place x : ℕ) → x ≤ 255 → shown skipped place x ≤ 255
shown_small skipped place x small = elim (cases_Bool (place == skipped)) [
  | inl e ↦ subst (λ n. n ≤ 255) (sym (cond-true (place == skipped) 0 x e)) (omega arith)
  | inr e ↦ subst (λ n. n ≤ 255) (sym (cond-false (place == skipped) 0 x e)) small
]

pub shown_other : (skipped place x : ℕ) → (place ≡ skipped → ⊥) → shown skipped place x ≡ x
shown_other skipped place x ne = cond-false (place == skipped) 0 x (ne_eqb place skipped ne)

pub few_keys : (skipped place : ℕ) (xs : List ℕ) → AreBytes xs → length xs ≤ 3 → key_without skipped place xs < 2 ^ 24
few_keys skipped place [] small few = omega arith
few_keys skipped place (x ∷ []) small few = let a = shown_small skipped place x small.0 in omega (arith, a)
few_keys skipped place (x ∷ y ∷ []) small few =
    let a = shown_small skipped place x small.0 in
    let b = shown_small skipped (suc place) y small.1.0 in
    omega (arith, a, b)
few_keys skipped place (x ∷ y ∷ z ∷ []) small few =
    let a = shown_small skipped place x small.0 in
    let b = shown_small skipped (suc place) y small.1.0 in
    let c = shown_small skipped (suc (suc place)) z small.1.1.0 in
    omega (arith, a, b, c)
few_keys skipped place (x ∷ y ∷ z ∷ w ∷ rest) small few = absurd (let bad : ⊥ = omega (arith, few) in bad)

-- ---- equal keys are those of tuples that agree at all other places

abbrev pub AgreeFrom : ℕ → ℕ → List ℕ → List ℕ → Type 0
AgreeFrom skipped place xs ys = (i : ℕ) → i < length xs → (place + i ≡ skipped → ⊥) → get_or xs i 0 ≡ get_or ys i 0

pub same_keys : (skipped place : ℕ) (xs ys : List ℕ) → length xs ≡ length ys → AgreeFrom skipped place xs ys → key_without skipped place xs ≡ key_without skipped place ys
same_keys skipped place [] [] long agree = refl
same_keys skipped place [] (y ∷ ys) long agree = absurd (let bad : ⊥ = omega (arith, long) in bad)
same_keys skipped place (x ∷ xs) [] long agree = absurd (let bad : ⊥ = omega (arith, long) in bad)
same_keys skipped place (x ∷ xs) (y ∷ ys) long agree =
    let rest = same_keys skipped (suc place) xs ys (omega (arith, long)) (λ i low ne. agree (suc i) (omega (arith, low)) (λ e. ne (omega (arith, e)))) in
    let here : shown skipped place x ≡ shown skipped place y = elim (cases_eq place skipped) [
      | inl e ↦ cond-true (place == skipped) 0 x (eq-eqb place skipped e) ∙ sym (cond-true (place == skipped) 0 y (eq-eqb place skipped e))
      | inr ne ↦ ap (shown skipped place) (agree 0 (omega arith) (λ e. ne (omega (arith, e))))
    ] in
    omega (arith, rest, here)

pub keys_same : (skipped place : ℕ) (xs ys : List ℕ) → AreBytes xs → AreBytes ys → length xs ≡ length ys → key_without skipped place xs ≡ key_without skipped place ys → AgreeFrom skipped place xs ys
keys_same skipped place [] ys sx sy long e i low ne = absurd (let bad : ⊥ = omega (arith, low) in bad)
keys_same skipped place (x ∷ xs) [] sx sy long e i low ne = absurd (let bad : ⊥ = omega (arith, long) in bad)
keys_same skipped place (x ∷ xs) (y ∷ ys) sx sy long e zero low ne =
    let a = shown_small skipped place x sx.0 in
    let b = shown_small skipped place y sy.0 in
    let away : place ≡ skipped → ⊥ = λ d. ne (omega (arith, d)) in
    let same : shown skipped place x ≡ shown skipped place y = omega (arith, a, b, e) in
    sym (shown_other skipped place x away) ∙ same ∙ shown_other skipped place y away
keys_same skipped place (x ∷ xs) (y ∷ ys) sx sy long e (suc i) low ne =
    let a = shown_small skipped place x sx.0 in
    let b = shown_small skipped place y sy.0 in
    let rest : key_without skipped (suc place) xs ≡ key_without skipped (suc place) ys = omega (arith, a, b, e) in
    keys_same skipped (suc place) xs ys sx.1 sy.1 (omega (arith, long)) rest i (omega (arith, low)) (λ d. ne (omega (arith, d)))

-- ---- tests of each place

pub each_place : (q : ℕ → Bool) (from count : ℕ) → list_all q (range_with_len from count) ≡ true → (i : ℕ) → i < count → q (from + i) ≡ true
each_place q from zero h i low = absurd (let bad : ⊥ = omega (arith, low) in bad)
each_place q from (suc count) h zero low = ap q (let e : from + 0 ≡ from = omega arith in e) ∙ (and_parts (q from) (list_all q (range_with_len (from + 1) count)) h).0
each_place q from (suc count) h (suc i) low =
    ap q (let e : from + suc i ≡ (from + 1) + i = omega arith in e)
    ∙ each_place q (from + 1) count (and_parts (q from) (list_all q (range_with_len (from + 1) count)) h).1 i (omega (arith, low))

pub from_each_place : (q : ℕ → Bool) (from count : ℕ) → ((i : ℕ) → i < count → q (from + i) ≡ true) → list_all q (range_with_len from count) ≡ true
from_each_place q from zero h = refl
from_each_place q from (suc count) h =
    and_from (q from) (list_all q (range_with_len (from + 1) count)) (ap q (let e : from ≡ from + 0 = omega arith in e) ∙ h 0 (omega arith))
    (from_each_place q (from + 1) count (λ i low. ap q (let e : (from + 1) + i ≡ from + suc i = omega arith in e) ∙ h (suc i) (omega (arith, low))))

at_place : (q : ℕ → Bool) (i : ℕ) → q (0 + i) ≡ true → q i ≡ true
at_place q i h = ap q (let e : i ≡ 0 + i = omega arith in e) ∙ h

from_place : (q : ℕ → Bool) (i : ℕ) → q i ≡ true → q (0 + i) ≡ true
from_place q i h = ap q (let e : 0 + i ≡ i = omega arith in e) ∙ h

-- agreement elsewhere is one key
pub agree_key : (n place : ℕ) (xs ys : List ℕ) → length xs ≡ n → length ys ≡ n → agree_elsewhere n place xs ys ≡ true → key_without place 0 xs ≡ key_without place 0 ys
agree_key n place xs ys lx ly h =
    same_keys place 0 xs ys (lx ∙ sym ly)
    (λ i low ne. elim (or_cases (i == place) (value_at xs i == value_at ys i) (at_place (λ other. (other == place) || (value_at xs other == value_at ys other)) i (each_place (λ other. (other == place) || (value_at xs other == value_at ys other)) 0 n h i (omega (arith, low, lx))))) [
      | inl e ↦ (let is = eqb-true i place e in absurd (ne (omega (arith, is))))
      | inr e ↦ eqb-true (value_at xs i) (value_at ys i) e
    ])

pub key_agree : (n place : ℕ) (xs ys : List ℕ) → AreBytes xs → AreBytes ys → length xs ≡ n → length ys ≡ n → key_without place 0 xs ≡ key_without place 0 ys → agree_elsewhere n place xs ys ≡ true
key_agree n place xs ys sx sy lx ly e =
    from_each_place (λ other. (other == place) || (value_at xs other == value_at ys other)) 0 n
    (λ i low. from_place (λ other. (other == place) || (value_at xs other == value_at ys other)) i (elim (cases_eq i place) [
      | inl here ↦ or_left (i == place) (value_at xs i == value_at ys i) (eq-eqb i place here)
      | inr away ↦ or_right (i == place) (value_at xs i == value_at ys i) (eq-eqb (value_at xs i) (value_at ys i) (keys_same place 0 xs ys sx sy (lx ∙ sym ly) e i (omega (arith, low, lx)) (λ d. away (omega (arith, d)))))
    ]))

-- ---- the values one by one, from the last on

pub bytes_dropped : (place : ℕ) (xs : List ℕ) → AreBytes xs → AreBytes (drop place xs)
bytes_dropped zero xs h = h
bytes_dropped (suc place) [] h = tt
bytes_dropped (suc place) (x ∷ xs) h = bytes_dropped place xs h.1

-- what the later ones have fits with one more
pub room : (xs : List ℕ) (place skipped key : ℕ) → 0 < place → AreBytes xs → length xs ≤ 4 → key ≡ key_without skipped place (drop place xs) → key < 2 ^ 24
room xs place skipped key some small few same =
    let left = length-drop place xs in
    subst (λ n. n < 2 ^ 24) (sym same) (few_keys skipped place (drop place xs) (bytes_dropped place xs small) (omega (arith, few, some, left)))

pub key_more : (xs : List ℕ) (skipped place next : ℕ) → next ≡ suc place → place < length xs → key_without skipped place (drop place xs) ≡ key_without skipped next (drop next xs) * 256 + shown skipped place (get_or xs place 0)
key_more xs skipped place next e inside =
    ap (key_without skipped place) (drop-cons xs place 0 inside) ∙ ap (λ n. key_without skipped n (drop n xs) * 256 + shown skipped place (get_or xs place 0)) (sym e)
