-- Trees of numbers: two trees made one.
use Rattle.std.proofs.Common.{◌≡◌, ℕ, ◌==◌, ◌<◌, ◌≤◌, List, cond, ◌⊎◌, get_or, length, max, min, inl, inr, sym, ap, ◌∙◌, subst, arith}
use Rattle.std.proofs.Math.ListN.{set, length-set}
use Rattle.std.proofs.lemmas.Bool.{cases_Bool, cases_eq, cases_lt, cond-true, cond-false, eq-eqb, ne_eqb}
use Rattle.std.proofs.lemmas.List.{get_or-set_same, get_or-set_other}
use Rattle.wf_tree_refine.specs.Forest.{IsForest, merged}

-- what holds of each number and its parent, after one parent was written
written : (ps : List ℕ) (i v : ℕ) (P : ℕ → ℕ → Type 0) → P i v → ((j : ℕ) → (j ≡ i → ⊥) → j < length ps → P j (get_or ps j 0)) → (j : ℕ) → j < length (set ps i v) → P j (get_or (set ps i v) j 0)
written ps i v P here others j inside =
    let low : j < length ps = subst (λ n. j < n) (length-set ps i v) inside in
    elim (cases_eq j i) [
      | inl e ↦ subst (λ k. P k (get_or (set ps i v) k 0)) (sym e) (subst (P i) (sym (get_or-set_same ps i v 0 (subst (λ k. k < length ps) e low))) here)
      | inr apart ↦ subst (P j) (sym (get_or-set_other ps i j v 0 apart)) (others j apart low)
    ]

-- ---- two trees made one

module _ (label : ℕ → ℕ) (high low : ℕ) (ordered : low ≤ high) (low_is : label low ≡ low) (high_is : label high ≡ high) where
  instead : ℕ → ℕ
  instead n = cond (n == high) low n

  instead_low : instead low ≡ low
  unfolding instead
  instead_low = elim (cases_Bool (low == high)) [ inl e ↦ cond-true (low == high) low low e | inr e ↦ cond-false (low == high) low low e ]

  instead_high : (n : ℕ) → n ≡ high → instead n ≡ low
  unfolding instead
  instead_high n e = cond-true (n == high) low n (eq-eqb n high e)

  instead_other : (n : ℕ) → (n ≡ high → ⊥) → instead n ≡ n
  unfolding instead
  instead_other n apart = cond-false (n == high) low n (ne_eqb n high apart)

  joined : (ps : List ℕ) → high < length ps → IsForest ps label → IsForest (set ps high low) (λ i. instead (label i))
  joined ps inside f =
      let kept : length (set ps high low) ≡ length ps = length-set ps high low in
      record {
        above = written ps high low (λ j v. instead (label v) ≡ instead (label j)) (ap instead low_is ∙ instead_low ∙ sym (instead_high (label high) high_is)) (λ j apart small. ap instead (f.above j small));
        root = written ps high low (λ j v. v ≡ j → instead (label j) ≡ j) (λ e. instead_high (label high) high_is ∙ e) (λ j apart small e. let is = f.root j small e in ap instead is ∙ instead_other j apart);
        low = λ j small. let below = f.low j (subst (λ n. j < n) kept small) in elim (cases_eq (label j) high) [
          | inl e ↦ subst (λ n. n ≤ j) (sym (instead_high (label j) e)) (omega (arith, ordered, e, below))
          | inr apart ↦ subst (λ n. n ≤ j) (sym (instead_other (label j) apart)) below
        ];
        still = λ j small. elim (cases_eq (label j) high) [
          | inl e ↦ let is = instead_high (label j) e in ap (λ n. instead (label n)) is ∙ ap instead low_is ∙ instead_low ∙ sym is
          | inr apart ↦ let is = instead_other (label j) apart in ap (λ n. instead (label n)) is ∙ ap instead (f.still j (subst (λ n. j < n) kept small))
        ];
      }

  pub joined_forest : (ps : List ℕ) → high < length ps → IsForest ps label → IsForest (set ps high low) (λ i. cond (label i == high) low (label i))
  unfolding instead
  joined_forest ps inside f = joined ps inside f

-- with the larger and the smaller of two roots
pub merged_forest : (ps : List ℕ) (label : ℕ → ℕ) (a b : ℕ) → a < length ps → b < length ps → label a ≡ a → label b ≡ b → IsForest ps label → IsForest (set ps (max a b) (min a b)) (merged label a b)
merged_forest ps label a b ia ib ra rb f =
    joined_forest label (max a b) (min a b) (omega arith)
    (elim (le_cases a b) [ inl e ↦ subst (λ n. label n ≡ n) (sym (let m : min a b ≡ a = omega (arith, e) in m)) ra | inr e ↦ subst (λ n. label n ≡ n) (sym (let m : min a b ≡ b = omega (arith, e) in m)) rb ])
    (elim (le_cases a b) [ inl e ↦ subst (λ n. label n ≡ n) (sym (let m : max a b ≡ b = omega (arith, e) in m)) rb | inr e ↦ subst (λ n. label n ≡ n) (sym (let m : max a b ≡ a = omega (arith, e) in m)) ra ])
    ps (omega (arith, ia, ib)) f
  where
    le_cases : (a b : ℕ) → (a ≤ b) ⊎ (b ≤ a)
    le_cases a b = elim (cases_lt a b) [ inl e ↦ inl (omega (arith, e)) | inr e ↦ inr e ]

-- as the code writes it, with two roots that were found one after the other
pub merged_write : (old ps : List ℕ) (label : ℕ → ℕ) (first second one other high low : ℕ) → first < length old → second < length old → length ps ≡ length old → one < length ps → other < length ps → high ≡ max one other → low ≡ min one other
    → one ≡ label first → other ≡ label second → IsForest old label → IsForest ps label → IsForest (set ps high low) (merged label (label first) (label second))
merged_write old ps label first second one other high low i j long a b eh el r s f g =
    let still_first : label one ≡ one = ap label r ∙ f.still first i ∙ sym r in
    let still_second : label other ≡ other = ap label s ∙ f.still second j ∙ sym s in
    subst (λ h. IsForest (set ps h low) (merged label (label first) (label second))) (sym eh)
    (subst (λ l. IsForest (set ps (max one other) l) (merged label (label first) (label second))) (sym el)
    (subst (λ x. IsForest (set ps (max one other) (min one other)) (merged label x (label second))) r
    (subst (λ y. IsForest (set ps (max one other) (min one other)) (merged label one y)) s
    (merged_forest ps label one other a b still_first still_second g))))
