-- How many lists of words there are, for some rounds and for more.
use Rattle.std.proofs.Common.{◌≡◌, ℕ, zero, suc, ◌+◌, ◌-◌, ◌*◌, ◌/◌, ◌<◌, ◌≤◌, List, [], ◌∷◌, ◌++◌, drop, get_or, length, sym, ap, ◌∙◌, arith, append_assoc}
use Rattle.std.proofs.Math.Nat.{mul-le-mul_left}
use Rattle.std.proofs.lemmas.List.{drop_more}
use Rattle.wf_model.specs.Simplex.{Simplex}
use Rattle.wf_model.specs.Word.{words}
use Rattle.wf_complex.specs.Layout.{turns, execution_total}
use Rattle.wf_complex.proofs.Lemmas.{words_some, turns_here}
use Rattle.wf_report_trim.specs.declared.stretch.Stretch.{Stretch}
use Rattle.wf_report_trim.specs.Stretches.{stretches}

pub turns_add : (m n r k : ℕ) → turns m n (r + k) ≡ turns m n r * turns m n k
turns_add m n zero k =
    let same : 0 + k ≡ k = omega arith in
    let one : turns m n k ≡ 1 * turns m n k = omega arith in
    ap (turns m n) same ∙ one
turns_add m n (suc r) k =
    let same : suc r + k ≡ suc (r + k) = omega arith in
    ap (turns m n) same ∙ ap (λ x. length (words m n) * x) (turns_add m n r k) ∙ joined (length (words m n)) (turns m n r) (turns m n k)
  where
    joined : (a b c : ℕ) → a * (b * c) ≡ (a * b) * c
    joined a b c = grind arith

-- ---- while they are counted

pub turns_some : (m n k : ℕ) → 1 ≤ length (words m n) → 1 ≤ turns m n k
turns_some m n zero some = omega arith
turns_some m n (suc k) some = omega (arith, some, turns_some m n k some, product_some (length (words m n)) (turns m n k) some (turns_some m n k some))
  where
    product_some : (a b : ℕ) → 1 ≤ a → 1 ≤ b → 1 ≤ a * b
    product_some a b h k = omega (arith, h, k, mul-le-mul_left {m = 1} {n = b} a k)

-- more rounds have as many or more
pub turns_up : (m n i j : ℕ) → 1 ≤ length (words m n) → i ≤ j → turns m n i ≤ turns m n j
turns_up m n i j some low =
    let on : i + (j - i) ≡ j = omega (arith, low) in
    let product : turns m n j ≡ turns m n i * turns m n (j - i) = ap (turns m n) (sym on) ∙ turns_add m n i (j - i) in
    omega (arith, product, mul-le-mul_left {m = 1} {n = turns m n (j - i)} (turns m n i) (turns_some m n (j - i) some))

-- the counts of one more simplex, where those of all are few
pub record AreCounted (m r k i : ℕ) (inputs : List Simplex) (s : Simplex) : Type 0 where
  pub before_here : execution_total m r (drop i inputs) ≡ turns m (length s) r + execution_total m r (drop (i + 1) inputs)
  pub after_here : execution_total m (r + k) (drop i inputs) ≡ turns m (length s) (r + k) + execution_total m (r + k) (drop (i + 1) inputs)
  pub product : turns m (length s) r * turns m (length s) k ≡ turns m (length s) (r + k)
  pub each_few : turns m (length s) k ≤ turns m (length s) (r + k)

pub counted : (m r k i : ℕ) (inputs : List Simplex) (s : Simplex) → 1 ≤ m → m ≤ 4 → 1 ≤ length s → length s ≤ 4 → i < length inputs → s ≡ get_or inputs i s → AreCounted m r k i inputs s
counted m r k i inputs s one most some few low is =
    record {
      before_here = (turns_here m r inputs i s low is).0;
      after_here = (turns_here m (r + k) inputs i s low is).0;
      product = sym (turns_add m (length s) r k);
      each_few = turns_up m (length s) k (r + k) (words_some m (length s) one most some few) (omega arith);
    }

pub stretches_more : (m r k i before after : ℕ) (inputs : List Simplex) (s : Simplex) (list : List Stretch) → i < length inputs → s ≡ get_or inputs i s →
    list ++ stretches m r k before after (drop i inputs) ≡ (list ++ record { before = before; after = after; each = turns m (length s) k } ∷ []) ++ stretches m r k (before + turns m (length s) r) (after + turns m (length s) (r + k)) (drop (i + 1) inputs)
stretches_more m r k i before after inputs s list low is =
    let e : drop i inputs ≡ s ∷ drop (i + 1) inputs = drop_more inputs i s low ∙ ap (λ x. x ∷ drop (i + 1) inputs) (sym is) in
    ap (λ xs. list ++ stretches m r k before after xs) e
    ∙ sym (append_assoc list (record { before = before; after = after; each = turns m (length s) k } ∷ []) (stretches m r k (before + turns m (length s) r) (after + turns m (length s) (r + k)) (drop (i + 1) inputs)))

-- ---- dividing takes the rest off

pub quotient : (p t rest : ℕ) → rest < t → (p * t + rest) / t ≡ p
quotient p t rest low = grind arith

pub divided : (before after t p rest o e : ℕ) → rest < t → o ≡ p * t + rest → e ≡ after + o → (0 + before) + (e - (0 + after)) / t ≡ before + p
divided before after t p rest o e low is at =
    let off : e - (0 + after) ≡ p * t + rest = omega (arith, is, at) in
    let by : (e - (0 + after)) / t ≡ p = ap (λ x. x / t) off ∙ quotient p t rest low in
    omega (arith, by)
