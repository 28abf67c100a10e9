-- Laws of the numbers that no clause with a literal is below.
use Rattle.std.proofs.Common.{◌≡◌, ℕ, ◌+◌, ◌-◌, ◌<◌, ◌≤◌, suc, true, List, [], ◌∷◌, ◌++◌, refl, sym, ◌∙◌, ap, subst, arith, length, length-append, get_or, replicate, set, inl, inr}
use Rattle.std.specs.Prelude.{◌==◌, if◌then◌else◌, Option, Some, None}
use Rattle.std.proofs.lemmas.Bool.{cases_Bool, cases_eq, cases_lt, false≢true}
use Rattle.std.proofs.lemmas.List.{get_or-append_right, get_or-replicate, get_or-set_other, get_or-set_same, get_or_append_left, get_or_at, get_or_default, get_or_past, length-replicate, set_past}
use Rattle.wf_sat_text.specs.Clauses.Formula.{Clause}
use Rattle.wf_sat_text.specs.Drat.Codes.{literal_of}
use Rattle.wf_sat_check.specs.Store.FirstOccurrence.{IsLowered}
use Rattle.wf_sat_check.specs.Store.Literals.{has}
use Rattle.wf_sat_check.specs.Lrat.Hints.{has_literal}
use Rattle.wf_sat_check.specs.Lrat.Ledger.{emptied}
use Rattle.wf_sat_check.specs.Lrat.Slots.{AreFirsts, clause_of}
use Rattle.wf_sat_check.proofs.OfLrat.LiteralLemmas.{is_on-codes}

pub firsts_lowered : (old new : List ℕ) (slots : List (Option Clause)) → AreFirsts old slots → IsLowered old new → AreFirsts new slots
firsts_lowered old new slots h lowered = λ l n there. lowered l n (h l n there)

-- the clause of a slot has the literal, and the slot is empty
none_there : (slot : Option Clause) (l : ℕ) → slot ≡ None → has_literal slot (literal_of l) ≡ true → ⊥
none_there slot l none there = false≢true (sym (ap (λ s. has_literal s (literal_of l)) none) ∙ there)

-- a number up to a lower one
up_to : (firsts : List ℕ) (l m n : ℕ) → get_or firsts l (suc m) ≤ m → m ≤ n → get_or firsts l (suc n) ≤ n
up_to firsts l m n low below = elim (cases_lt l (length firsts)) [
  | inl within ↦ omega (arith, low, below, get_or_default firsts l (suc n) (suc m) within)
  | inr beyond ↦ let past : get_or firsts l (suc m) ≡ suc m = get_or_past firsts l (suc m) beyond in absurd (let bad : ⊥ = omega (arith, low, past) in bad)
]

-- what is behind the slots: nothing, and then the clause
module _ (firsts : List ℕ) (clause : List ℕ) (gap m : ℕ) (noted : (l : ℕ) → has clause l ≡ true → get_or firsts l (suc m) ≤ m) where
  abbrev behind : List (Option Clause)
  behind = replicate gap None ++ Some (clause_of clause) ∷ []

  last_noted : (l k : ℕ) → has_literal (get_or behind k None) (literal_of l) ≡ true → (k ≡ gap) × (get_or firsts l (suc m) ≤ m)
  last_noted l k there = elim (cases_lt k gap) [
    | inl before ↦
        let inside : k < length (replicate {A = Option Clause} gap None) = omega (arith, before, length-replicate {A = Option Clause} gap None) in
        absurd (none_there (get_or behind k None) l
        (get_or_append_left (replicate gap None) (Some (clause_of clause) ∷ []) None k inside ∙ get_or-replicate gap k None None before) there)
    | inr not_before ↦ elim (cases_eq k gap) [
      | inl same ↦
          let here : get_or behind gap None ≡ Some (clause_of clause) = get_or_at (replicate gap None) (Some (clause_of clause)) [] None gap (length-replicate gap None) in
          (same, noted l (sym (is_on-codes clause l) ∙ ap (λ s. has_literal s (literal_of l)) (sym here) ∙ ap (λ j. has_literal (get_or behind j None) (literal_of l)) (sym same) ∙ there))
      | inr other ↦
          let past : length behind ≤ k = omega (arith, not_before, other, length-append (replicate gap None) (Some (clause_of clause) ∷ []), length-replicate {A = Option Clause} gap None) in
          absurd (none_there (get_or behind k None) l (get_or_past behind k None past) there)
    ]
  ]

  pub firsts_put : (slots : List (Option Clause)) → AreFirsts firsts slots → m ≤ length slots + gap → AreFirsts firsts (slots ++ behind)
  firsts_put slots h below = λ l n there. elim (cases_lt n (length slots)) [
    | inl within ↦ h l n (ap (λ s. has_literal s (literal_of l)) (sym (get_or_append_left slots behind None n within)) ∙ there)
    | inr beyond ↦
        let from : length slots ≤ n = omega (arith, beyond) in
        let last = last_noted l (n - length slots) (ap (λ s. has_literal s (literal_of l)) (sym (get_or-append_right slots behind (length slots) n None refl from)) ∙ there) in
        let same = last.0 in
        up_to firsts l m n last.1 (omega (arith, below, from, same))
  ]

emptied_there : (slots : List (Option Clause)) (k : ℕ) → get_or (set slots k None) k None ≡ None
emptied_there slots k = elim (cases_lt k (length slots)) [
  | inl within ↦ get_or-set_same slots k None None within
  | inr beyond ↦ ap (λ xs. get_or xs k None) (set_past slots k None beyond) ∙ get_or_past slots k None beyond
]

-- a clause less
pub firsts_emptied : (firsts : List ℕ) (slots : List (Option Clause)) (id : ℕ) → AreFirsts firsts slots → AreFirsts firsts (emptied id slots)
firsts_emptied firsts slots id h = elim (cases_Bool (id == 0)) [
  | inl none ↦ subst (λ b. AreFirsts firsts (if b then slots else set slots (id - 1) None)) (sym none) h
  | inr some ↦ subst (λ b. AreFirsts firsts (if b then slots else set slots (id - 1) None)) (sym some) (λ l n there. elim (cases_eq n (id - 1)) [
    | inr other ↦ h l n (ap (λ s. has_literal s (literal_of l)) (sym (get_or-set_other slots (id - 1) n None None other)) ∙ there)
    | inl same ↦ absurd (none_there (get_or (set slots (id - 1) None) n None) l (ap (λ k. get_or (set slots (id - 1) None) k None) same ∙ emptied_there slots (id - 1)) there)
  ])
]
