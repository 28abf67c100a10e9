-- Variables: each is on the formula's list, and says one thing.
use Rattle.std.proofs.Common.{◌≡◌, ℕ, suc, ◌+◌, ◌*◌, ◌<◌, ◌≤◌, ◌==◌, nat_lt, true, false, List, [], ◌∷◌, length, inl, inr, ap, arith, eqb-true}
use Rattle.std.proofs.Math.Nat.{mul-le-mul_right}
use Rattle.std.proofs.lemmas.Bool.{cases_Bool, cases_order, or_cases, lt-ltb, le-ltb, ltb-true, false≢true}
use Rattle.wf_model.specs.Lists.{has}
use Rattle.wf_sat_formula.specs.Encoding.{rank_in, variable}

-- a smaller number has no larger rank
rank_upto : (values : List ℕ) (x y : ℕ) → x ≤ y → rank_in values x ≤ rank_in values y
rank_upto [] x y h = omega arith
rank_upto (b ∷ values) x y h =
    elim (cases_Bool (nat_lt b x)) [
      | inl below ↦ let more : nat_lt b y ≡ true = lt-ltb b y (omega (arith, ltb-true b x below, h)) in rw (below, more) (omega (arith, rank_upto values x y h))
      | inr not_below ↦ elim (cases_Bool (nat_lt b y)) [
        | inl more ↦ rw (not_below, more) (omega (arith, rank_upto values x y h))
        | inr not_more ↦ rw (not_below, not_more) (rank_upto values x y h)
      ]
    ]

-- a smaller one of the values has a smaller rank
pub rank_below : (values : List ℕ) (x y : ℕ) → has values x ≡ true → x < y → rank_in values x < rank_in values y
rank_below [] x y h low = absurd (false≢true h)
rank_below (b ∷ values) x y h low =
    elim (or_cases (b == x) (has values x) h) [
      | inl here ↦
          let same : b ≡ x = eqb-true b x here in
          let not_below : nat_lt b x ≡ false = le-ltb b x (omega (arith, same)) in
          let more : nat_lt b y ≡ true = lt-ltb b y (omega (arith, same, low)) in
          rw (not_below, more) (omega (arith, rank_upto values x y (omega (arith, low))))
      | inr later ↦ elim (cases_Bool (nat_lt b x)) [
        | inl below ↦ let more : nat_lt b y ≡ true = lt-ltb b y (omega (arith, ltb-true b x below, low)) in rw (below, more) (omega (arith, rank_below values x y later low))
        | inr not_below ↦ elim (cases_Bool (nat_lt b y)) [
          | inl more ↦ rw (not_below, more) (omega (arith, rank_below values x y later low))
          | inr not_more ↦ rw (not_below, not_more) (rank_below values x y later low)
        ]
      ]
    ]

pub rank_most : (values : List ℕ) (x : ℕ) → rank_in values x ≤ length values
rank_most [] x = omega arith
rank_most (b ∷ values) x =
    elim (cases_Bool (nat_lt b x)) [ inl below ↦ rw below (omega (arith, rank_most values x)) | inr not_below ↦ rw not_below (omega (arith, rank_most values x)) ]

pub rank_within : (values : List ℕ) (x : ℕ) → has values x ≡ true → rank_in values x < length values
rank_within values x h = omega (arith, rank_below values x (suc x) h (omega arith), rank_most values (suc x))

rank_tells : (values : List ℕ) (x y : ℕ) → has values x ≡ true → has values y ≡ true → rank_in values x ≡ rank_in values y → x ≡ y
rank_tells values x y h k same =
    elim (cases_order x y) [
      | inl equal ↦ equal
      | inr apart ↦ absurd (elim apart [
        | inl less ↦ let a = rank_below values x y h less in let none : ⊥ = omega (arith, a, same) in none
        | inr more ↦ let a = rank_below values y x k more in let none : ⊥ = omega (arith, a, same) in none
      ])
    ]

-- two numbers in rows of k are one where their rows and places are
row_apart : (k v w r s : ℕ) → v < w → r < k → v * k + r < w * k + s
row_apart k v w r s h low =
    let a : suc v * k ≤ w * k = mul-le-mul_right {m = suc v} {n = w} k (omega (arith, h)) in
    let e : suc v * k ≡ v * k + k = grind arith in
    omega (arith, a, e, low)

row_same : (k v w r s : ℕ) → r < k → s < k → v * k + r ≡ w * k + s → (v ≡ w) × (r ≡ s)
row_same k v w r s h l same =
    elim (cases_order v w) [
      | inl equal ↦ (equal, let e : v * k ≡ w * k = ap (λ x. x * k) equal in omega (arith, same, e))
      | inr apart ↦ absurd (elim apart [
        | inl less ↦ let a = row_apart k v w r s less h in let none : ⊥ = omega (arith, a, same) in none
        | inr more ↦ let a = row_apart k w v s r more l in let none : ⊥ = omega (arith, a, same) in none
      ])
    ]

-- a variable is that of one point and one value
pub variable_tells : (values : List ℕ) (v w x y : ℕ) → has values x ≡ true → has values y ≡ true → variable values v x ≡ variable values w y → (v ≡ w) × (x ≡ y)
variable_tells values v w x y h k same =
    let parts = row_same (length values) v w (rank_in values x) (rank_in values y) (rank_within values x h) (rank_within values y k) (omega (arith, same)) in
    (parts.0, rank_tells values x y h k parts.1)

-- and is one of the formula's
pub variable_listed : (values : List ℕ) (n v x : ℕ) → has values x ≡ true → v < n → (1 ≤ variable values v x) × (variable values v x ≤ n * length values)
variable_listed values n v x h low =
    let a : suc v * length values ≤ n * length values = mul-le-mul_right {m = suc v} {n = n} (length values) (omega (arith, low)) in
    let e : suc v * length values ≡ v * length values + length values = grind arith in
    (omega arith, omega (arith, a, e, rank_within values x h))
