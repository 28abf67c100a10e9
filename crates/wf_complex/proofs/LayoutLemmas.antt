-- How many executions there are, and where their places lie.
use Rattle.std.proofs.Common.{◌≡◌, ◌<◌, ◌≤◌, ℕ, suc, ◌+◌, ◌*◌, min, List, [], ◌∷◌, ◌++◌, map, length, drop, get_or, sym, refl, ap, ◌∙◌, arith, lit≤, append_assoc}
use Rattle.std.specs.List.{AllByRecursion}
use Rattle.std.proofs.Math.Nat.{mul-le-mul_right, mul-le-mul_left}
use Rattle.std.proofs.lemmas.List.{drop_more}
use Rattle.wf_model.specs.Simplex.{Simplex}
use Rattle.wf_model.specs.Word.{words}
use Rattle.wf_simplex.proofs.Lemmas.{each_pair}
use Rattle.wf_complex.specs.declared.layout.ExecutionSlot.{ExecutionSlot}
use Rattle.wf_complex.specs.Layout.{turns, execution_total, place_total, laid_on, laid_out}

abbrev HasFew : ℕ → ℕ → Type 0
HasFew m n = (1 ≤ length (words m n)) × (length (words m n) ≤ 75)

few : (m n : ℕ) → 1 ≤ m → m ≤ 4 → 1 ≤ n → n ≤ 4 → HasFew m n
few =
    each_pair HasFew
    (lit≤ tt, lit≤ tt) (lit≤ tt, lit≤ tt) (lit≤ tt, lit≤ tt) (lit≤ tt, lit≤ tt)
    (lit≤ tt, lit≤ tt) (lit≤ tt, lit≤ tt) (lit≤ tt, lit≤ tt) (lit≤ tt, lit≤ tt)
    (lit≤ tt, lit≤ tt) (lit≤ tt, lit≤ tt) (lit≤ tt, lit≤ tt) (lit≤ tt, lit≤ tt)
    (lit≤ tt, lit≤ tt) (lit≤ tt, lit≤ tt) (lit≤ tt, lit≤ tt) (lit≤ tt, lit≤ tt)

-- at most 75, which are all words of four
pub words_few : (m n : ℕ) → 1 ≤ m → m ≤ 4 → 1 ≤ n → n ≤ 4 → length (words m n) ≤ 75
words_few m n one most some h = (few m n one most some h).1

pub words_some : (m n : ℕ) → 1 ≤ m → m ≤ 4 → 1 ≤ n → n ≤ 4 → 1 ≤ length (words m n)
words_some m n one most some h = (few m n one most some h).0

pub turns-more : (m n r : ℕ) → turns m n (r + 1) ≡ length (words m n) * turns m n r
turns-more m n r = let e : r + 1 ≡ suc r = omega arith in rw e refl

-- counting up to a limit
pub min_times : (t w most : ℕ) → 1 ≤ w → min (min t most * w) most ≡ min (w * t) most
min_times t w most some = grind (arith, mul-le-mul_right {m = 1} {n = w} t some, mul-le-mul_right {m = 1} {n = w} most some)

-- a product of a count and a size
pub product_small : (a b m n : ℕ) → a ≤ m → b ≤ n → a * b ≤ m * n
product_small a b m n h k = omega (arith, mul-le-mul_right {m = a} {n = m} b h, mul-le-mul_left {m = b} {n = n} m k)

pub turns_here : (m rounds : ℕ) (ss : List Simplex) (i : ℕ) (s : Simplex) → i < length ss → s ≡ get_or ss i s →
    (execution_total m rounds (drop i ss) ≡ turns m (length s) rounds + execution_total m rounds (drop (i + 1) ss)) × (place_total m rounds (drop i ss) ≡ turns m (length s) rounds * length s + place_total m rounds (drop (i + 1) ss))
turns_here m rounds ss i s place is =
    let e : drop i ss ≡ s ∷ drop (i + 1) ss = drop_more ss i s place ∙ ap (λ x. x ∷ drop (i + 1) ss) (sym is) in
    (ap (execution_total m rounds) e, ap (place_total m rounds) e)

-- the executions that are left, after one more
pub laid_on-more : (k n p c left : ℕ) (before : List ExecutionSlot) → left ≡ c + 1 → before ++ laid_on k n p left ≡ (before ++ record { simplex = k; place = p; size = n } ∷ []) ++ laid_on k n (p + n) c
laid_on-more k n p c left before e =
    let one : left ≡ suc c = omega (arith, e) in
    ap (λ m. before ++ laid_on k n p m) one ∙ sym (append_assoc before (record { simplex = k; place = p; size = n } ∷ []) (laid_on k n (p + n) c))

-- those of the simplices that are left, after one more simplex
pub laid_out-more : (m rounds : ℕ) (ss : List Simplex) (i place : ℕ) (s : Simplex) (before : List ExecutionSlot) → i < length ss → s ≡ get_or ss i s →
    before ++ laid_out m rounds i place (drop i ss) ≡ (before ++ laid_on i (length s) place (turns m (length s) rounds)) ++ laid_out m rounds (i + 1) (place + turns m (length s) rounds * length s) (drop (i + 1) ss)
laid_out-more m rounds ss i place s before low is =
    let e : drop i ss ≡ s ∷ drop (i + 1) ss = drop_more ss i s low ∙ ap (λ x. x ∷ drop (i + 1) ss) (sym is) in
    ap (λ xs. before ++ laid_out m rounds i place xs) e
    ∙ sym (append_assoc before (laid_on i (length s) place (turns m (length s) rounds)) (laid_out m rounds (i + 1) (place + turns m (length s) rounds * length s) (drop (i + 1) ss)))

-- the same of what is made of each execution
pub made_on-more : {X : Type 0} (f : ExecutionSlot → X) (k n p c left : ℕ) (before : List X) → left ≡ c + 1 →
    before ++ map f (laid_on k n p left) ≡ (before ++ f (record { simplex = k; place = p; size = n }) ∷ []) ++ map f (laid_on k n (p + n) c)
made_on-more f k n p c left before e =
    ap (λ es. before ++ map f es) (laid_on-more k n p c left [] e)
    ∙ sym (append_assoc before (f (record { simplex = k; place = p; size = n }) ∷ []) (map f (laid_on k n (p + n) c)))

-- at most four processes take part in each execution
pub place_few : (m rounds : ℕ) (ss : List Simplex) → AllByRecursion (λ s. length s ≤ 4) ss → place_total m rounds ss ≤ execution_total m rounds ss * 4
place_few m rounds [] h = omega arith
place_few m rounds (s ∷ ss) h =
    let here : turns m (length s) rounds * length s ≤ turns m (length s) rounds * 4 = mul-le-mul_left {m = length s} {n = 4} (turns m (length s) rounds) h.0 in
    omega (arith, here, place_few m rounds ss h.1)

-- a count that met no limit
pub whole_count : (m rounds : ℕ) (s : Simplex) (size count : ℕ) → size ≡ length s → count ≡ min (turns m size rounds) 500001 → turns m (length s) rounds ≤ 500000 → (count ≡ turns m (length s) rounds) × (count * size ≡ turns m (length s) rounds * length s)
whole_count m rounds s size count e is few =
    let same : count ≡ turns m (length s) rounds = omega (arith, is, few, ap (λ n. turns m n rounds) e) in
    (same, λ i. same i * e i)
