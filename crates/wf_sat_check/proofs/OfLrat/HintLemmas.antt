-- Laws of the literals that are open, and of the hints that are followed.
use Rattle.std.proofs.Common.{◌≡◌, ℕ, ◌+◌, ◌<◌, true, false, List, [], ◌∷◌, refl, sym, ◌∙◌, ap, length, drop, get_or}
use Rattle.std.specs.Prelude.{cond, if◌then◌else◌, not, Option, Some}
use Rattle.std.proofs.lemmas.List.{drop_more}
use Rattle.wf_sat_text.specs.Clauses.Formula.{Clause, Literal, negation}
use Rattle.wf_sat_text.specs.Drat.Codes.{literal_of}
use Rattle.wf_sat_text.specs.declared.lrat.reader.Hint.{Hint}
use Rattle.wf_sat_check.specs.Lrat.Hints.{Followed, by_hint, by_open, followed, goes_on, is_on, open_literals, stops, with_true}
use Rattle.wf_sat_check.specs.Lrat.Ledger.{slot_of}
use Rattle.wf_sat_check.specs.Lrat.Slots.{clause_of, opened_of}
use Rattle.wf_sat_check.specs.declared.lrat.scan.Opened.{Opened}
use Rattle.wf_sat_check.specs.declared.lrat.scan.Opened.TheVariants.{Nothing, One, Several}
use Rattle.wf_sat_check.specs.declared.lrat.verdict.LratVerdict.TheVariants.{Conflict, NoConflict}
use Rattle.wf_sat_check.proofs.OfLrat.LiteralLemmas.{literal_of-code_of}

-- ---- a clause is looked through

-- what was found so far, and the open literals behind it
abbrev pub joined : Opened → List Literal → Opened
joined Nothing ls = opened_of ls
joined (One l) [] = One l
joined (One l) (m ∷ ls) = Several
joined Several ls = Several

pub closed-first : (trail : List Literal) (c : ℕ) (cs : List ℕ) → is_on trail (negation (literal_of c)) ≡ true
    → open_literals trail (clause_of (c ∷ cs)) ≡ open_literals trail (clause_of cs)
closed-first trail c cs h = ap (λ b. cond (not b) (literal_of c ∷ open_literals trail (clause_of cs)) (open_literals trail (clause_of cs))) h

pub open-first : (trail : List Literal) (c : ℕ) (cs : List ℕ) → is_on trail (negation (literal_of c)) ≡ false
    → open_literals trail (clause_of (c ∷ cs)) ≡ literal_of c ∷ open_literals trail (clause_of cs)
open-first trail c cs h = ap (λ b. cond (not b) (literal_of c ∷ open_literals trail (clause_of cs)) (open_literals trail (clause_of cs))) h

module _ (trail : List Literal) (clause : List ℕ) (i f : ℕ) (within : i < length clause)
    (other : literal_of f ≡ negation (literal_of (get_or clause i 0))) where
  first : open_literals trail (clause_of (drop i clause)) ≡ open_literals trail (clause_of (get_or clause i 0 ∷ drop (i + 1) clause))
  first = ap (λ cs. open_literals trail (clause_of cs)) (drop_more clause i 0 within)

  -- the literal is false
  pub passed : is_on trail (literal_of f) ≡ true → open_literals trail (clause_of (drop i clause)) ≡ open_literals trail (clause_of (drop (i + 1) clause))
  passed h = first ∙ closed-first trail (get_or clause i 0) (drop (i + 1) clause) (ap (is_on trail) (sym other) ∙ h)

  -- it is open
  pub found : is_on trail (literal_of f) ≡ false
      → open_literals trail (clause_of (drop i clause)) ≡ literal_of (get_or clause i 0) ∷ open_literals trail (clause_of (drop (i + 1) clause))
  found h = first ∙ open-first trail (get_or clause i 0) (drop (i + 1) clause) (ap (is_on trail) (sym other) ∙ h)

  pub found_more : (o : Opened) (l : ℕ) → o ≡ One l → is_on trail (literal_of f) ≡ false
      → joined o (open_literals trail (clause_of (drop i clause))) ≡ Several
  found_more o l one h = ap (λ x. joined x (open_literals trail (clause_of (drop i clause)))) one ∙ ap (joined (One l)) (found h)

-- ---- hints are followed

-- what a clause comes to of which these literals are open
abbrev pub course_on : Opened → List Literal → (List Literal → Followed) → Followed
course_on Nothing trail rest = stops Conflict
course_on (One l) trail rest = rest (with_true trail (literal_of l))
course_on Several trail rest = stops NoConflict

by_open-opened : (ls trail : List Literal) (rest : List Literal → Followed) → by_open ls trail rest ≡ course_on (opened_of ls) trail rest
by_open-opened [] trail rest = refl
by_open-opened (l ∷ []) trail rest = ap (λ m. rest (with_true trail m)) (sym (literal_of-code_of l))
by_open-opened (l ∷ m ∷ more) trail rest = refl

module _ (slots : List (Option Clause)) (trail : List Literal) (hints : List Hint) (i : ℕ) (d : Hint) (within : i < length hints) where
  -- the next hint, and the rest of them
  abbrev hint : Hint
  hint = get_or hints i d

  abbrev pub rest_of : List Literal → Followed
  rest_of next = followed slots next (drop (i + 1) hints)

  at_hint : followed slots trail (drop i hints) ≡ (if hint.is_negative then goes_on trail else by_hint (slot_of slots hint.id) trail rest_of)
  at_hint = ap (followed slots trail) (drop_more hints i d within)

  at_positive : hint.is_negative ≡ false → followed slots trail (drop i hints) ≡ by_hint (slot_of slots hint.id) trail rest_of
  at_positive positive = at_hint ∙ ap (λ b. if b then goes_on trail else by_hint (slot_of slots hint.id) trail rest_of) positive

  pub hint_step : (clause : Clause) (o : Opened) → hint.is_negative ≡ false → slot_of slots hint.id ≡ Some clause → o ≡ opened_of (open_literals trail clause)
      → followed slots trail (drop i hints) ≡ course_on o trail rest_of
  hint_step clause o positive some is_open =
      at_positive positive ∙ ap (λ s. by_hint s trail rest_of) some
      ∙ by_open-opened (open_literals trail clause) trail rest_of ∙ ap (λ x. course_on x trail rest_of) (sym is_open)
