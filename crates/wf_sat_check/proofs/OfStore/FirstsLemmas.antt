-- Laws of the numbers that no clause with a literal is below.
use Rattle.std.proofs.Common.{◌≡◌, ℕ, ◌+◌, ◌≤◌, suc, Bool, true, false, List, [], ◌∷◌, ◌++◌, sym, ◌∙◌, subst, arith, length, length-set, get_or, set, inl, inr, get_or-set_other, get_or-set_same}
use Rattle.std.specs.Prelude.{if◌then◌else◌}
use Rattle.std.proofs.lemmas.Bool.{cases_eq, cases_lt, false≢true}
use Rattle.std.proofs.lemmas.List.{get_or_append_left, get_or_past, get_or_push, length_push}
use Rattle.wf_sat_check.specs.Store.FirstOccurrence.{AreFirsts, IsLowered}
use Rattle.wf_sat_check.specs.Store.Literals.{has}

-- each literal of the clause has a number up to this one
abbrev pub AreNoted : List ℕ → List ℕ → ℕ → Type 0
AreNoted firsts clause number = (l : ℕ) → has clause l ≡ true → get_or firsts l (suc number) ≤ number

pub firsts-lowered : (old new : List ℕ) (clauses : List (List ℕ)) → AreFirsts old clauses → IsLowered old new → AreFirsts new clauses
firsts-lowered old new clauses h lowered = λ l n there. lowered l n (h l n there)

firsts-pushed : (firsts : List ℕ) (clauses : List (List ℕ)) (c : List ℕ) (number : ℕ) → AreFirsts firsts clauses → number ≡ length clauses
    → AreNoted firsts c number → AreFirsts firsts (clauses ++ c ∷ [])
firsts-pushed firsts clauses c number h last noted = λ l n there. elim (cases_lt n (length clauses)) [
  | inl within ↦ h l n (subst (λ xs. has xs l ≡ true) (get_or_append_left clauses (c ∷ []) [] n within) there)
  | inr beyond ↦ elim (cases_eq n number) [
    | inl same ↦
        let here : get_or (clauses ++ c ∷ []) n [] ≡ c = get_or_push clauses c [] n (sym last ∙ sym same) in
        subst (λ (m : ℕ). get_or firsts l (suc m) ≤ m) (sym same) (noted l (subst (λ xs. has xs l ≡ true) here there))
    | inr other ↦
        let past : length (clauses ++ c ∷ []) ≤ n = omega (arith, length_push clauses c, beyond, other, last) in
        absurd (false≢true (subst (λ xs. has xs l ≡ true) (get_or_past (clauses ++ c ∷ []) n [] past) there))
  ]
]

-- where the clause is stored in the end, and where it is not
pub firsts-either : (old new : List ℕ) (clauses after : List (List ℕ)) (c : List ℕ) (number : ℕ) (b : Bool) → AreFirsts old clauses → IsLowered old new
    → number ≡ length clauses → AreNoted new c number → after ≡ (if b then clauses ++ c ∷ [] else clauses) → AreFirsts new after
firsts-either old new clauses after c number true h lowered last noted is =
    subst (AreFirsts new) (sym is) (firsts-pushed new clauses c number (firsts-lowered old new clauses h lowered) last noted)
firsts-either old new clauses after c number false h lowered last noted is =
    subst (AreFirsts new) (sym is) (firsts-lowered old new clauses h lowered)

emptied : (clauses : List (List ℕ)) (n number : ℕ) → n ≡ number → get_or (set clauses number []) n [] ≡ []
emptied clauses n number same = elim (cases_lt number (length clauses)) [
  | inl within ↦ subst (λ (m : ℕ). get_or (set clauses number []) m [] ≡ []) (sym same) (get_or-set_same clauses number [] [] within)
  | inr beyond ↦ get_or_past (set clauses number []) n [] (omega (arith, length-set clauses number [], beyond, same))
]

-- a clause less
pub firsts-forgotten : (firsts : List ℕ) (clauses : List (List ℕ)) (number : ℕ) → AreFirsts firsts clauses → AreFirsts firsts (set clauses number [])
firsts-forgotten firsts clauses number h = λ l n there. elim (cases_eq n number) [
  | inr other ↦ h l n (subst (λ xs. has xs l ≡ true) (get_or-set_other clauses number n [] [] other) there)
  | inl same ↦ absurd (false≢true (subst (λ xs. has xs l ≡ true) (emptied clauses n number same) there))
]
