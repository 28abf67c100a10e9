-- How many roots are below a number.
use Rattle.std.proofs.Common.{◌≡◌, ℕ, zero, suc, ◌+◌, ◌==◌, ◌<◌, List, [], ◌∷◌, ◌++◌, get_or, length, ◌⊎◌, inl, inr, sym, ap, ◌∙◌, subst, arith, length-append}
use Rattle.std.proofs.Math.ListN.{get_or-append}
use Rattle.std.proofs.Math.Seq.{get_or-append_seam}
use Rattle.std.proofs.lemmas.Bool.{cases_Bool, cases_eq, cases_order, cond-true, cond-false, eq-eqb, eqb-true}
use Rattle.wf_tree_refine.specs.Forest.{rank}

rank_step : (label : ℕ → ℕ) (k : ℕ) → (rank label (suc k) ≡ rank label k) ⊎ (rank label (suc k) ≡ suc (rank label k))
rank_step label k = elim (cases_Bool (label k == k)) [ inl e ↦ inr (cond-true (label k == k) _ _ e) | inr e ↦ inl (cond-false (label k == k) _ _ e) ]

pub rank_root : (label : ℕ → ℕ) (k : ℕ) → label k ≡ k → rank label (suc k) ≡ suc (rank label k)
rank_root label k e = cond-true (label k == k) _ _ (eq-eqb (label k) k e)

pub rank_other : (label : ℕ → ℕ) (k : ℕ) → (label k ≡ k → ⊥) → rank label (suc k) ≡ rank label k
rank_other label k ne = elim (rank_step label k) [ inl e ↦ e | inr e ↦ elim (cases_Bool (label k == k)) [ inl is ↦ absurd (ne (eqb-true (label k) k is)) | inr is ↦ cond-false (label k == k) _ _ is ] ]

-- a root has more roots below it than those before
pub rank_more : (label : ℕ → ℕ) (a b : ℕ) → label a ≡ a → a < b → rank label a < rank label b
rank_more label a zero root less = absurd (let bad : ⊥ = omega (arith, less) in bad)
rank_more label a (suc b) root less =
    elim (cases_eq a b) [
      | inl e ↦ let here = rank_root label b (subst (λ n. label n ≡ n) e root) in let same = ap (rank label) e in omega (arith, here, same)
      | inr ne ↦ let before = rank_more label a b root (omega (arith, less, ne)) in elim (rank_step label b) [ inl e ↦ omega (arith, e, before) | inr e ↦ omega (arith, e, before) ]
    ]

-- two roots with as many below are one
pub same_rank : (label : ℕ → ℕ) (a b : ℕ) → label a ≡ a → label b ≡ b → rank label a ≡ rank label b → a ≡ b
same_rank label a b ra rb e =
    elim (cases_order a b) [
      | inl is ↦ is
      | inr other ↦ elim other [
        | inl less ↦ let more = rank_more label a b ra less in absurd (let bad : ⊥ = omega (arith, more, e) in bad)
        | inr less ↦ let more = rank_more label b a rb less in absurd (let bad : ⊥ = omega (arith, more, e) in bad)
      ]
    ]

-- each number below a rank is that of a root before
pub rank_met : (label : ℕ → ℕ) (k v : ℕ) → v < rank label k → (j : ℕ) × (j < k) × (label j ≡ j) × (rank label j ≡ v)
rank_met label zero v less = absurd (let bad : ⊥ = omega (arith, less) in bad)
rank_met label (suc k) v less =
    elim (cases_eq (label k) k) [
      | inl root ↦ elim (cases_eq (rank label k) v) [
        | inl e ↦ (k, omega arith, root, e)
        | inr ne ↦ let step = rank_root label k root in let r = rank_met label k v (omega (arith, step, less, ne)) in (r.0, omega (arith, r.1), r.2, r.3)
      ]
      | inr other ↦ let step = rank_other label k other in let r = rank_met label k v (omega (arith, step, less)) in (r.0, omega (arith, r.1), r.2, r.3)
    ]

-- ---- the ranks one by one

pub one_rank : (ranks new : List ℕ) (label : ℕ → ℕ) (number v : ℕ) → length ranks ≡ number → new ≡ ranks ++ v ∷ [] → ((i : ℕ) → i < number → get_or ranks i 0 ≡ rank label (label i)) → v ≡ rank label (label number)
    → (i : ℕ) → i < number + 1 → get_or new i 0 ≡ rank label (label i)
one_rank ranks new label number v long is before here i low =
    ap (λ xs. get_or xs i 0) is
    ∙ elim (cases_eq i number) [
      | inl e ↦ ap (λ n. get_or (ranks ++ v ∷ []) n 0) (e ∙ sym long) ∙ get_or-append_seam ranks v [] 0 ∙ here ∙ ap (λ n. rank label (label n)) (sym e)
      | inr ne ↦ (let inside : i < length ranks = omega (arith, low, ne, long) in get_or-append ranks (v ∷ []) 0 i inside ∙ before i (omega (arith, low, ne)))
    ]

pub pushed : (xs : List ℕ) (v number : ℕ) → length xs ≡ number → length (xs ++ v ∷ []) ≡ number + 1
pushed xs v number e = simp length-append (omega (arith, e))

pub next_root : (label : ℕ → ℕ) (number : ℕ) → label number ≡ number → rank label number + 1 ≡ rank label (number + 1)
next_root label number root = (let e : rank label number + 1 ≡ suc (rank label number) = omega arith in e) ∙ sym (rank_root label number root) ∙ ap (rank label) (let e : suc number ≡ number + 1 = omega arith in e)

pub next_other : (label : ℕ → ℕ) (number : ℕ) → label number < number → rank label number ≡ rank label (number + 1)
next_other label number low = sym (rank_other label number (λ e. absurd (let bad : ⊥ = omega (arith, low, e) in bad))) ∙ ap (rank label) (let e : suc number ≡ number + 1 = omega arith in e)
