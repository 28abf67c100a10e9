-- Lists in which numbers stand once, and sums over lists of anything.
use Rattle.std.proofs.Common.{◌≡◌, ◌≢◌, ℕ, zero, suc, ◌+◌, ◌*◌, ◌<◌, ◌≤◌, Bool, cond, List, [], ◌∷◌, ◌++◌, length, set, refl, sym, ap, ◌∙◌, subst, arith, eq-eqb, ne_eqb}
use Rattle.std.specs.Prelude.{Contains}
use Rattle.std.proofs.lemmas.Bool.{lt-ltb, le-ltb}
use Rattle.std.proofs.Math.Nat.{mul-add}
use mathlib.Core.Option.{some, some-ne-none, some-injective}
use mathlib.Core.Logic.{dite}
use native.Mathlib.Decide.{ℕ_discrete, dec_lt}
use lib.ListN.{get_elem?}
use Rattle.wf_core.specs.Count.{times, once_below, total}

-- Numbers below b

pub once_in : (x b : ℕ) → x < b → once_below x b ≡ 1
once_in x b h = ap (λ (t : Bool). cond t 1 0) (lt-ltb x b h)

pub once_out : (x b : ℕ) → b ≤ x → once_below x b ≡ 0
once_out x b h = ap (λ (t : Bool). cond t 1 0) (le-ltb x b h)

pub times_same : (x y : ℕ) (ys : List ℕ) → x ≡ y → times x (y ∷ ys) ≡ 1 + times x ys
times_same x y ys e = ap (λ (t : Bool). cond t 1 0 + times x ys) (eq-eqb x y e)

pub times_other : (x y : ℕ) (ys : List ℕ) → x ≢ y → times x (y ∷ ys) ≡ times x ys
times_other x y ys ne = ap (λ (t : Bool). cond t 1 0 + times x ys) (ne_eqb x y ne) ∙ omega arith

pub times-append : (x : ℕ) (xs ys : List ℕ) → times x (xs ++ ys) ≡ times x xs + times x ys
times-append x [] ys = omega arith
times-append x (y ∷ xs) ys = let e = times-append x xs ys in omega arith

-- one number more
pub once_next : (x n : ℕ) → once_below x (n + 1) ≡ once_below x n + times x (n ∷ [])
once_next x n = dite (ℕ_discrete x n)
    (λ (e : x ≡ n). let t = times_same x n [] e in let p = once_in x (n + 1) (omega arith) in let q = once_out x n (omega arith) in omega arith)
    (λ (ne : x ≢ n). let t = times_other x n [] ne in dite (dec_lt x n)
    (λ (lt : x < n). let p = once_in x (n + 1) (omega arith) in let q = once_in x n lt in omega arith)
    (λ (nl : ¬ (x < n)). let p = once_out x (n + 1) (omega arith) in let q = once_out x n (omega arith) in omega arith))

-- a number that is counted stands in the list
pub times-Contains : (x : ℕ) (xs : List ℕ) → 0 < times x xs → Contains xs x
times-Contains x [] h = absurd (omega arith)
times-Contains x (y ∷ ys) h = dite (ℕ_discrete x y)
    (λ (e : x ≡ y). (0, omega arith, sym e))
    (λ (no : x ≢ y).
    let t = times_other x y ys no in
    let c = times-Contains x ys (omega arith) in
    (suc c.0, (let k = c.1 in omega arith), c.2))

-- and an element is counted
pub Contains-times : (x : ℕ) (xs : List ℕ) → Contains xs x → 0 < times x xs
Contains-times x [] c = absurd (let lt = c.1 in omega arith)
Contains-times x (y ∷ ys) (zero, lt, e) = let t = times_same x y ys (sym e) in omega arith
Contains-times x (y ∷ ys) (suc k, lt, e) = let rest = Contains-times x ys (k, omega arith, e) in omega arith

-- the list with no b in it
abbrev pub without : ℕ → List ℕ → List ℕ
without b [] = []
without b (y ∷ ys) = cond (Rattle.std.proofs.Common.eqb b y) (without b ys) (y ∷ without b ys)

without_same : (b y : ℕ) (ys : List ℕ) → b ≡ y → without b (y ∷ ys) ≡ without b ys
without_same b y ys e = ap (λ (t : Bool). cond t (without b ys) (y ∷ without b ys)) (eq-eqb b y e)

without_other : (b y : ℕ) (ys : List ℕ) → b ≢ y → without b (y ∷ ys) ≡ y ∷ without b ys
without_other b y ys ne = ap (λ (t : Bool). cond t (without b ys) (y ∷ without b ys)) (ne_eqb b y ne)

pub length-without : (b : ℕ) (xs : List ℕ) → length xs ≡ times b xs + length (without b xs)
length-without b [] = omega arith
length-without b (y ∷ ys) =
    let e = length-without b ys in
    dite (ℕ_discrete b y)
    (λ (is : b ≡ y). let s = times_same b y ys is in let t = ap length (without_same b y ys is) in omega arith)
    (λ (no : b ≢ y). let s = times_other b y ys no in let t : length (without b (y ∷ ys)) ≡ suc (length (without b ys)) = ap length (without_other b y ys no) in omega arith)

pub times-without_same : (b : ℕ) (xs : List ℕ) → times b (without b xs) ≡ 0
times-without_same b [] = refl
times-without_same b (y ∷ ys) =
    let e = times-without_same b ys in
    dite (ℕ_discrete b y)
    (λ (is : b ≡ y). ap (times b) (without_same b y ys is) ∙ e)
    (λ (no : b ≢ y). ap (times b) (without_other b y ys no) ∙ (times_other b y (without b ys) no ∙ e))

pub times-without_other : (b x : ℕ) (xs : List ℕ) → x ≢ b → times x (without b xs) ≡ times x xs
times-without_other b x [] ne = refl
times-without_other b x (y ∷ ys) ne =
    let r = times-without_other b x ys ne in
    dite (ℕ_discrete b y)
    (λ (e : b ≡ y). ap (times x) (without_same b y ys e) ∙ (r ∙ sym (times_other x y ys (λ k. ne (k ∙ sym e)))))
    (λ (no : b ≢ y). let t = ap (times x) (without_other b y ys no) in omega arith)

-- a list that has only numbers below b, each at most once, has at most b
pub length-le_below : (b : ℕ) (xs : List ℕ) → ((x : ℕ) → times x xs ≤ once_below x b) → length xs ≤ b
length-le_below zero [] each = omega arith
length-le_below zero (y ∷ ys) each =
    let a = each y in let e = times_same y y ys refl in let o = once_out y 0 (omega arith) in absurd (omega arith)
length-le_below (suc b) xs each =
    let rest : List ℕ = without b xs in
    let e = length-without b xs in
    let one : times b xs ≤ 1 = (let a = each b in let o = once_in b (suc b) (omega arith) in omega arith) in
    let short = length-le_below b rest (λ x. dite (ℕ_discrete x b)
    (λ (is : x ≡ b). let z = subst (λ k. times k rest ≡ 0) (sym is) (times-without_same b xs) in omega arith)
    (λ (no : x ≢ b).
    let a = each x in
    let t = times-without_other b x xs no in
    dite (dec_lt x b)
    (λ (lt : x < b). let p = once_in x b lt in let q = once_in x (suc b) (omega arith) in omega arith)
    (λ (nl : ¬ (x < b)). let q = once_out x (suc b) (omega arith) in omega arith))) in
    omega arith

-- a list that has each number below b has at least b
pub length-ge_below : (b : ℕ) (xs : List ℕ) → ((x : ℕ) → once_below x b ≤ times x xs) → b ≤ length xs
length-ge_below zero xs each = omega arith
length-ge_below (suc b) xs each =
    let rest : List ℕ = without b xs in
    let e = length-without b xs in
    let one : 1 ≤ times b xs = (let a = each b in let o = once_in b (suc b) (omega arith) in omega arith) in
    let long = length-ge_below b rest (λ x. dite (dec_lt x b)
    (λ (lt : x < b).
    let a = each x in
    let p = once_in x b lt in let q = once_in x (suc b) (omega arith) in
    let s = times-without_other b x xs (λ (k : x ≡ b). omega arith) in omega arith)
    (λ (no : ¬ (x < b)). let q = once_out x b (omega arith) in omega arith)) in
    omega arith

-- a number below b that is not in the list may be put into it
pub times_more : (b i x n : ℕ) (all : List ℕ) → i < b → n ≡ times x all → n ≤ once_below x b → times i all ≡ 0 → n + times x (i ∷ []) ≤ once_below x b
times_more b i x n all inside is each fresh = dite (ℕ_discrete x i)
    (λ (e : x ≡ i).
    let t = times_same x i [] e in
    let z : times x all ≡ 0 = subst (λ k. times k all ≡ 0) (sym e) fresh in
    let o = once_in x b (omega arith) in omega arith)
    (λ (no : x ≢ i). let t = times_other x i [] no in omega arith)

-- Sums over a list

module _ {V : Type 0} where
  pub total-append : (f : V → ℕ) (vs us : List V) → total f (vs ++ us) ≡ total f vs + total f us
  total-append f [] us = omega arith
  total-append f (v ∷ vs) us = let e = total-append f vs us in omega arith

  pub total_set : (f : V → ℕ) (vs : List V) (i : ℕ) (v w : V) → get_elem? vs i ≡ some v → total f (set vs i w) + f v ≡ total f vs + f w
  total_set f [] i v w e = absurd (some-ne-none v (sym e))
  total_set f (x ∷ xs) zero v w e = let same : f x ≡ f v = ap f (some-injective x v e) in omega arith
  total_set f (x ∷ xs) (suc i) v w e = let rest = total_set f xs i v w e in omega arith

  -- one of them is no more than all
  pub total_one : (f : V → ℕ) (vs : List V) (i : ℕ) (v : V) → get_elem? vs i ≡ some v → f v ≤ total f vs
  total_one f [] i v e = absurd (some-ne-none v (sym e))
  total_one f (x ∷ xs) zero v e = let same : f x ≡ f v = ap f (some-injective x v e) in omega arith
  total_one f (x ∷ xs) (suc i) v e = let rest = total_one f xs i v e in omega arith

  pub total_le : (f g : V → ℕ) (vs : List V) → ((i : ℕ) (v : V) → get_elem? vs i ≡ some v → f v ≤ g v) → total f vs ≤ total g vs
  total_le f g [] each = omega arith
  total_le f g (x ∷ xs) each = let h = each 0 x refl in let rest = total_le f g xs (λ i v e. each (suc i) v e) in omega arith

  pub total_bound : (f g : V → ℕ) (b : ℕ) (vs : List V) → ((i : ℕ) (v : V) → get_elem? vs i ≡ some v → f v ≤ b * g v) → total f vs ≤ b * total g vs
  total_bound f g b [] each = omega arith
  total_bound f g b (x ∷ xs) each =
      let here : f x ≤ b * g x = each 0 x refl in
      let rest : total f xs ≤ b * total g xs = total_bound f g b xs (λ i v e. each (suc i) v e) in
      let both : b * (g x + total g xs) ≡ b * g x + b * total g xs = mul-add b (g x) (total g xs) in
      omega arith
