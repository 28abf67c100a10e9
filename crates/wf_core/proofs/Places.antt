-- How many elements of a list pass a test, by the places at which they stand.
use Rattle.std.proofs.Common.{◌≡◌, ◌≢◌, ℕ, suc, ◌+◌, ◌-◌, ◌<◌, Bool, false, cond, List, [], ◌∷◌, length, refl, sym, ap, ◌∙◌, subst, arith}
use Rattle.std.specs.Prelude.{slice_get}
use Rattle.std.specs.List.{count_by}
use Rattle.std.specs.Option.{option_map_or}
use Rattle.std.proofs.lemmas.List.Sums.{sum_by-cons}
use mathlib.Core.Logic.{dite}
use native.Mathlib.Decide.{ℕ_discrete, dec_lt}
use Rattle.wf_core.specs.Count.{times}
use Rattle.wf_core.proofs.Counts.{times_same, without, length-without, times-without_same, times-without_other}

module _ {A : Type 0} (p : A → Bool) where
  -- 1 where the element at the place passes, and else 0
  abbrev pub one_at : List A → ℕ → ℕ
  one_at bs i = cond (option_map_or p (slice_get bs i) false) 1 0

  pub count-cons : (b : A) (bs : List A) → count_by p (b ∷ bs) ≡ cond (p b) 1 0 + count_by p bs
  count-cons b bs = sum_by-cons (λ x. cond (p x) 1 0) b bs

  -- the list of the places, from k on, of those that pass
  count_from : (k : ℕ) (bs : List A) (xs : List ℕ) → ((i : ℕ) → times (k + i) xs ≡ one_at bs i) → ((i : ℕ) → i < k → times i xs ≡ 0) → length xs ≡ count_by p bs
  count_from k [] [] here below = refl
  count_from k [] (y ∷ ys) here below =
      let one = times_same y y ys refl in
      dite (dec_lt y k)
      (λ (lt : y < k). let none = below y lt in absurd (omega arith))
      (λ (past : ¬ (y < k)).
      let at : k + (y - k) ≡ y = omega arith in
      let none : times y (y ∷ ys) ≡ 0 = subst (λ (j : ℕ). times j (y ∷ ys) ≡ 0) at (here (y - k)) in
      absurd (omega arith))
  count_from k (b ∷ bs) xs here below =
      let all = length-without k xs in
      let at : k + 0 ≡ k = omega arith in
      let first : times k xs ≡ cond (p b) 1 0 = subst (λ (j : ℕ). times j xs ≡ cond (p b) 1 0) at (here 0) in
      let rest = count_from (suc k) bs (without k xs)
      (λ i.
      let apart : suc k + i ≢ k = λ e. omega arith in
      let next : suc k + i ≡ k + suc i = omega arith in
      times-without_other k (suc k + i) xs apart ∙ (ap (λ (j : ℕ). times j xs) next ∙ here (suc i)))
      (λ i lt. dite (ℕ_discrete i k)
      (λ (e : i ≡ k). subst (λ (j : ℕ). times j (without k xs) ≡ 0) (sym e) (times-without_same k xs))
      (λ (ne : i ≢ k). let lower : i < k = omega arith in times-without_other k i xs ne ∙ below i lower)) in
      let count = count-cons b bs in
      omega arith

  -- a list in which exactly the places of those that pass stand, each once
  pub length-places : (bs : List A) (xs : List ℕ) → ((i : ℕ) → times i xs ≡ one_at bs i) → length xs ≡ count_by p bs
  length-places bs xs here =
      count_from 0 bs xs (λ i. let at : 0 + i ≡ i = omega arith in ap (λ (j : ℕ). times j xs) at ∙ here i) (λ i lt. absurd (omega arith))
