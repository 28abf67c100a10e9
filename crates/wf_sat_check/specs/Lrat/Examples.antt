-- Worked examples, by computation.
use Rattle.std.specs.Prelude.{◌≡◌, ℕ, List, [], ◌∷◌, Some, None, codes, true, false, refl}
use Rattle.wf_sat_text.specs.Clauses.Formula.{Clause, neg, pos}
use Rattle.wf_sat_text.specs.Lrat.Text.{text_of}
use Rattle.wf_sat_text.specs.declared.lrat.reader.Hint.{Hint}
use Rattle.wf_sat_check.specs.Lrat.Fed.{Outcome, outcome_of, proof_start, refuses, refutes}
use Rattle.wf_sat_check.specs.Lrat.Hints.{followed, stops, verdict_of}
use Rattle.wf_sat_check.specs.Lrat.Ledger.{Ledger, ledger_of}
use Rattle.wf_sat_check.specs.declared.lrat.verdict.LratVerdict.TheVariants as verdict
use Rattle.wf_sat_check.specs.declared.lrat.proof.LratFault.TheVariants.{NoConflict}

-- all four clauses of two variables
abbrev four : List Clause
four = (pos 1 ∷ pos 2 ∷ []) ∷ (pos 1 ∷ neg 2 ∷ []) ∷ (neg 1 ∷ pos 2 ∷ []) ∷ (neg 1 ∷ neg 2 ∷ []) ∷ []

abbrev known : Ledger
known = ledger_of (record { variables = 2; clauses = four })

abbrev outcome_in : List ℕ → Outcome
outcome_in bytes = outcome_of (text_of (proof_start 2) bytes) known

-- a hint that is not negative, and one that is
abbrev to : ℕ → Hint
to id = record { id = id; is_negative = false }

abbrev against : ℕ → Hint
against id = record { id = id; is_negative = true }

-- 1 by 1 and 2: 2 is true by the first, and the second is false
pub a_conflict : verdict_of known 5 (pos 1 ∷ []) (to 1 ∷ to 2 ∷ []) ≡ verdict.Conflict
a_conflict = refl

-- hints behind the conflict are not looked at
pub hints_behind_a_conflict : verdict_of known 5 (pos 1 ∷ []) (to 1 ∷ to 2 ∷ to 99 ∷ []) ≡ verdict.Conflict
hints_behind_a_conflict = refl

-- the third clause is true, and tells nothing: both its literals are open
pub a_clause_with_two_open_literals : verdict_of known 5 (pos 2 ∷ []) (to 2 ∷ to 1 ∷ []) ≡ verdict.NoConflict
a_clause_with_two_open_literals = refl

pub hints_at_their_end : verdict_of known 5 (pos 1 ∷ []) (to 1 ∷ []) ≡ verdict.NoConflict
hints_at_their_end = refl

pub a_hint_of_no_clause : verdict_of known 5 (pos 1 ∷ []) (to 1 ∷ to 5 ∷ []) ≡ verdict.UnknownHint
a_hint_of_no_clause = refl

-- an open literal that stands there twice counts twice
pub a_literal_twice : followed (Some (pos 1 ∷ pos 1 ∷ []) ∷ Some (neg 1 ∷ []) ∷ []) [] (to 1 ∷ to 2 ∷ []) ≡ stops verdict.NoConflict
a_literal_twice = refl

pub a_tautology : verdict_of known 5 (pos 1 ∷ neg 1 ∷ []) [] ≡ verdict.Conflict
a_tautology = refl

-- ids go up, and at most to 64 times the number of clauses
pub an_id_that_was : verdict_of known 4 (pos 1 ∷ []) (to 1 ∷ to 2 ∷ []) ≡ verdict.IdOutOfRange
an_id_that_was = refl

pub the_largest_id : verdict_of known 320 (pos 1 ∷ []) (to 1 ∷ to 2 ∷ []) ≡ verdict.Conflict
the_largest_id = refl

pub an_id_too_large : verdict_of known 321 (pos 1 ∷ []) (to 1 ∷ to 2 ∷ []) ≡ verdict.IdOutOfRange
an_id_too_large = refl

abbrev refuted : Ledger
refuted = record {
  variables = 2;
  slots = None ∷ Some (pos 1 ∷ neg 2 ∷ []) ∷ Some (neg 1 ∷ pos 2 ∷ []) ∷ Some (neg 1 ∷ neg 2 ∷ []) ∷ Some (pos 1 ∷ []) ∷ None
      ∷ Some [] ∷ [];
  count = 6;
  is_refuted = true;
}

-- what stands behind the contradiction is passed over
pub a_refutation : outcome_in (codes "5 1 0 1 2 0\n5 d 1 0\n7 0 5 3 4 0\nx") ≡ refutes refuted
a_refutation = refl

pub a_refusal : outcome_in (codes "\n5 1 0 1 0\n6 0 x") ≡ refuses (NoConflict 2) known
a_refusal = refl

-- ---- clauses that need not follow

-- the same clause by groups: the third and the fourth clause have -1
pub two_groups : verdict_of known 5 (pos 1 ∷ []) (against 3 ∷ to 1 ∷ to 2 ∷ against 4 ∷ to 1 ∷ to 2 ∷ []) ≡ verdict.Conflict
two_groups = refl

pub a_group_left_out : verdict_of known 5 (pos 1 ∷ []) (against 3 ∷ to 1 ∷ to 2 ∷ []) ≡ verdict.ClauseLeftOut
a_group_left_out = refl

-- groups stand by ascending id
pub groups_in_another_order : verdict_of known 5 (pos 1 ∷ []) (against 4 ∷ to 1 ∷ to 2 ∷ against 3 ∷ to 1 ∷ to 2 ∷ [])
    ≡ verdict.ClauseLeftOut
groups_in_another_order = refl

pub a_group_without_a_conflict : verdict_of known 5 (pos 1 ∷ []) (against 3 ∷ against 4 ∷ to 1 ∷ to 2 ∷ []) ≡ verdict.NoConflict
a_group_without_a_conflict = refl

-- what hints force before the groups is true in each: here -2 by the second clause
pub hints_before_the_groups : verdict_of known 5 (pos 1 ∷ []) (to 2 ∷ against 3 ∷ to 1 ∷ against 4 ∷ to 1 ∷ []) ≡ verdict.Conflict
hints_before_the_groups = refl

-- no group is needed of a clause with another literal that is true, here -2
pub a_clause_that_is_satisfied : verdict_of known 5 (pos 1 ∷ []) (to 2 ∷ against 3 ∷ to 1 ∷ []) ≡ verdict.Conflict
a_clause_that_is_satisfied = refl

pub its_group_all_the_same : verdict_of known 5 (pos 2 ∷ []) (to 3 ∷ against 2 ∷ to 1 ∷ against 4 ∷ to 99 ∷ []) ≡ verdict.Conflict
its_group_all_the_same = refl

-- a new variable: no clause has its negation, and a group is looked at only where one has
pub a_new_variable : verdict_of known 5 (pos 3 ∷ neg 1 ∷ []) (against 1 ∷ []) ≡ verdict.Conflict
a_new_variable = refl

-- so none is needed
pub no_group : verdict_of known 5 (pos 3 ∷ neg 1 ∷ []) [] ≡ verdict.Conflict
no_group = refl

-- one is needed, and there is none at all
pub no_group_that_is_needed : verdict_of known 5 (pos 1 ∷ pos 3 ∷ []) [] ≡ verdict.NoConflict
no_group_that_is_needed = refl

-- the first literal counts
pub another_literal_first : verdict_of known 5 (neg 1 ∷ pos 3 ∷ []) (against 1 ∷ []) ≡ verdict.NoConflict
another_literal_first = refl

pub no_first_literal : verdict_of known 5 [] (against 1 ∷ to 2 ∷ to 3 ∷ to 4 ∷ []) ≡ verdict.NoConflict
no_first_literal = refl
