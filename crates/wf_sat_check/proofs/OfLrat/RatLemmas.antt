-- Laws of the clauses that have the negation of a lemma's first literal, one after the other.
use Rattle.std.proofs.Common.{◌≡◌, ℕ, ◌+◌, ◌-◌, ◌<◌, ◌≤◌, zero, suc, true, false, List, refl, sym, ◌∙◌, ap, arith, length, drop, get_or, inl, inr}
use Rattle.std.specs.Prelude.{◌==◌, if◌then◌else◌, Option, None}
use Rattle.std.proofs.lemmas.Bool.{cases_lt}
use Rattle.std.proofs.lemmas.List.{drop_all, drop_more}
use Rattle.wf_sat_text.specs.Clauses.Formula.{Clause, Literal}
use Rattle.wf_sat_text.specs.declared.lrat.reader.Hint.{Hint}
use Rattle.wf_sat_check.specs.Lrat.Hints.{and_then, behind_group, by_candidate, has_literal, others_in, resolved}
use Rattle.wf_sat_check.specs.Lrat.Ledger.{slot_of}
use Rattle.wf_sat_check.specs.declared.lrat.verdict.LratVerdict.{LratVerdict}
use Rattle.wf_sat_check.specs.declared.lrat.verdict.LratVerdict.TheVariants.{Conflict}

next_slot : (slots : List (Option Clause)) (n : ℕ) → get_or slots n None ≡ slot_of slots (n + 1)
next_slot slots n =
    let some : (n + 1 == 0) ≡ false = grind arith in
    let back : n + 1 - 1 ≡ n = omega arith in
    ap (λ m. get_or slots m None) (sym back) ∙ ap (λ b. if b then None else get_or slots (n + 1 - 1) None) (sym some)

module _ (slots : List (Option Clause)) (trail : List Literal) (negated : Literal) (n : ℕ) (hints : List Hint) (within : n < length slots) where
  -- what is behind the next clause comes to, by these groups
  abbrev behind : List Hint → LratVerdict
  behind groups = resolved slots trail negated (n + 1 + 1) (drop (n + 1) slots) groups

  abbrev by_next : Option Clause → LratVerdict
  by_next slot =
      if has_literal slot negated then and_then (by_candidate slots trail (others_in negated slot) (n + 1) hints) (behind (behind_group (n + 1) hints))
      else behind hints

  at_next : resolved slots trail negated (n + 1) (drop n slots) hints ≡ by_next (slot_of slots (n + 1))
  at_next = ap (λ left. resolved slots trail negated (n + 1) left hints) (drop_more slots n None within) ∙ ap by_next (next_slot slots n)

  -- the clause has not the literal
  pub passed_over : has_literal (slot_of slots (n + 1)) negated ≡ false → resolved slots trail negated (n + 1) (drop n slots) hints ≡ behind hints
  passed_over none = at_next ∙ ap (λ b. if b then and_then (by_candidate slots trail (others_in negated (slot_of slots (n + 1))) (n + 1) hints) (behind (behind_group (n + 1) hints)) else behind hints) none

  -- it has, and its group is in order
  pub settled : (v : LratVerdict) → has_literal (slot_of slots (n + 1)) negated ≡ true
      → v ≡ by_candidate slots trail (others_in negated (slot_of slots (n + 1))) (n + 1) hints → v ≡ Conflict
      → resolved slots trail negated (n + 1) (drop n slots) hints ≡ behind (behind_group (n + 1) hints)
  settled v some is conflict =
      at_next ∙ ap (λ b. if b then and_then (by_candidate slots trail (others_in negated (slot_of slots (n + 1))) (n + 1) hints) (behind (behind_group (n + 1) hints)) else behind hints) some
      ∙ ap (λ w. and_then w (behind (behind_group (n + 1) hints))) (sym is ∙ conflict)

module _ (slots : List (Option Clause)) (trail : List Literal) (negated : Literal) (hints : List Hint) where
  -- what the slots from this one on come to, by these groups
  abbrev from_slot : ℕ → LratVerdict
  from_slot n = resolved slots trail negated (n + 1) (drop n slots) hints

  one_more : (n : ℕ) → has_literal (get_or slots n None) negated ≡ false → from_slot n ≡ from_slot (n + 1)
  one_more n none = elim (cases_lt n (length slots)) [
    | inl within ↦ passed_over slots trail negated n hints within (ap (λ s. has_literal s negated) (sym (next_slot slots n)) ∙ none)
    | inr beyond ↦
        let later : length slots ≤ n + 1 = omega (arith, beyond) in
        let here : length slots ≤ n = omega (arith, beyond) in
        ap (λ left. resolved slots trail negated (n + 1) left hints) (drop_all n slots here)
        ∙ sym (ap (λ left. resolved slots trail negated (n + 1 + 1) left hints) (drop_all (n + 1) slots later))
  ]

  -- the first slots have not the literal
  pub skipped : (n : ℕ) → ((k : ℕ) → k < n → has_literal (get_or slots k None) negated ≡ false) → resolved slots trail negated 1 slots hints ≡ from_slot n
  skipped zero none = refl
  skipped (suc n) none =
      let last : n < suc n = omega arith in
      let same : n + 1 ≡ suc n = omega arith in
      skipped n (λ k below. let deeper : k < suc n = omega (arith, below) in none k deeper) ∙ one_more n (none n last) ∙ ap from_slot same
