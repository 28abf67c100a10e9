-- Laws of a clause that is assumed to be false.
use Rattle.std.proofs.Common.{◌≡◌, ℕ, Bool, true, false, List, [], ◌∷◌, ◌++◌, refl, sym, ◌∙◌, ap, arith, map, inl, inr}
use Rattle.std.specs.Prelude.{◌==◌, ◌||◌, if◌then◌else◌, Option}
use Rattle.std.specs.List.{list_any}
use Rattle.std.proofs.lemmas.Bool.{cases_Bool}
use Rattle.std.proofs.lemmas.List.Folds.{list_any-append}
use Rattle.wf_sat_text.specs.Clauses.Formula.{Clause, Literal, negation}
use Rattle.wf_sat_text.specs.Drat.Codes.{code_of}
use Rattle.wf_sat_text.specs.declared.lrat.reader.Hint.{Hint}
use Rattle.wf_sat_check.specs.Lrat.Hints.{Followed, by_followed, followed, is_on, is_tautology, next_group, verdict_by, with_false, with_true}
use Rattle.wf_sat_check.specs.declared.lrat.verdict.LratVerdict.TheVariants.{Conflict}

absorbed : (x y : Bool) → (y ≡ true → x ≡ true) → x ≡ (x || y)
absorbed true y h = refl
absorbed false true h = h refl
absorbed false false h = refl

or_none : (x : Bool) → x ≡ (x || false)
or_none true = refl
or_none false = refl

or_assoc : (x y z : Bool) → ((x || y) || z) ≡ (x || (y || z))
or_assoc true y z = refl
or_assoc false y z = refl

same_codes : (m n : ℕ) → (m == n) ≡ true → m ≡ n
same_codes m n h = grind (arith, h)

-- a literal is on the trail behind another one
on-true : (trail : List Literal) (m l : Literal) → is_on (with_true trail m) l ≡ (is_on trail l || (code_of m == code_of l))
on-true trail m l = elim (cases_Bool (is_on trail m)) [
  | inl on ↦
      ap (λ b. is_on (if b then trail else trail ++ m ∷ []) l) on
      ∙ absorbed (is_on trail l) (code_of m == code_of l)
      (λ same. ap (λ n. list_any (λ x. code_of x == n) trail) (sym (same_codes (code_of m) (code_of l) same)) ∙ on)
  | inr off ↦
      ap (λ b. is_on (if b then trail else trail ++ m ∷ []) l) off
      ∙ list_any-append (λ x. code_of x == code_of l) trail (m ∷ [])
      ∙ ap (λ b. is_on trail l || b) (sym (or_none (code_of m == code_of l)))
]

on-false : (trail literals : List Literal) (l : Literal) → is_on (with_false trail literals) l ≡ (is_on trail l || is_on (map negation literals) l)
on-false trail [] l = or_none (is_on trail l)
on-false trail (m ∷ ms) l =
    on-false (with_true trail (negation m)) ms l
    ∙ ap (λ b. b || is_on (map negation ms) l) (on-true trail (negation m) l)
    ∙ or_assoc (is_on trail l) (code_of (negation m) == code_of l) (is_on (map negation ms) l)

any_same : (f g : Literal → Bool) (clause : Clause) → ((l : Literal) → f l ≡ g l) → list_any f clause ≡ list_any g clause
any_same f g [] same = refl
any_same f g (l ∷ ls) same = ap (λ b. b || list_any f ls) (same l) ∙ ap (λ b. g l || b) (any_same f g ls same)

module _ (slots : List (Option Clause)) (clause : Clause) (hints : List Hint) (trail : List Literal) (assumed : trail ≡ with_false [] clause) where
  tautology : list_any (is_on trail) clause ≡ is_tautology clause
  tautology =
      ap (λ t. list_any (is_on t) clause) assumed
      ∙ any_same (is_on (with_false [] clause)) (is_on (map negation clause)) clause (λ l. on-false [] clause l)

  -- one of its literals is true
  pub at_tautology : list_any (is_on trail) clause ≡ true → Conflict ≡ verdict_by slots clause hints
  at_tautology some = sym (ap (λ b. if b then Conflict else by_followed (followed slots (with_false [] clause) hints) slots clause (next_group hints)) (sym tautology ∙ some))

  -- none is
  pub at_followed : (f : Followed) → list_any (is_on trail) clause ≡ false → f ≡ followed slots trail hints
      → by_followed f slots clause (next_group hints) ≡ verdict_by slots clause hints
  at_followed f none is =
      ap (λ x. by_followed x slots clause (next_group hints)) (is ∙ ap (λ t. followed slots t hints) assumed)
      ∙ sym (ap (λ b. if b then Conflict else by_followed (followed slots (with_false [] clause) hints) slots clause (next_group hints)) (sym tautology ∙ none))
