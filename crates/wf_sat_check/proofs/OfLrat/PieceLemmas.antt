-- A proof's text in pieces: the next one is read where the one before left off.
use Rattle.std.proofs.Common.{◌≡◌, ℕ, List, [], ◌∷◌, ◌++◌, refl, sym, ◌∙◌, ap, inl, inr}
use Rattle.std.specs.Prelude.{if◌then◌else◌}
use Rattle.std.proofs.lemmas.Bool.{cases_Bool}
use Rattle.wf_sat_text.specs.Clauses.Formula.{Clause}
use Rattle.wf_sat_text.specs.Lrat.Text.{State, Step, addition, deletion, state_after, step_of, text_from, text_of, turn_of}
use Rattle.wf_sat_text.specs.declared.lrat.reader.LratTransition.{LratTransition}
use Rattle.wf_sat_text.specs.declared.lrat.reader.LratTransition.TheVariants.{GoesOn, Begins, BeginsDeletion, Takes, EndsClause, Names, Deletes, Ends, Stops}
use Rattle.wf_sat_check.specs.Lrat.Fed.{Outcome, by_step, by_verdict, fault_at, outcome_of, reads, refuses, refutes, unless_refuted}
use Rattle.wf_sat_check.specs.Lrat.Hints.{verdict_of}
use Rattle.wf_sat_check.specs.Lrat.Ledger.{Ledger}
use Rattle.wf_sat_check.specs.declared.lrat.verdict.LratVerdict.{LratVerdict}
use Rattle.wf_sat_check.specs.declared.lrat.verdict.LratVerdict.TheVariants.{Conflict, NoConflict, UnknownHint, ClauseLeftOut, IdOutOfRange}
use Rattle.wf_sat_check.proofs.OfLrat.FedLemmas.{refuted_outcome}

-- what further bytes come to
abbrev pub resumed : List ℕ → Outcome → Outcome
resumed more (reads state l) = outcome_of (text_of state more) l
resumed more (refutes l) = refutes l
resumed more (refuses fault l) = refuses fault l

by_verdict-resumed : (more : List ℕ) (v : LratVerdict) (line id : ℕ) (clause : Clause) (l : Ledger) (rest : Ledger → Outcome)
    → by_verdict v line id clause l (λ next. resumed more (rest next)) ≡ resumed more (by_verdict v line id clause l rest)
by_verdict-resumed more Conflict line id clause l rest = refl
by_verdict-resumed more NoConflict line id clause l rest = refl
by_verdict-resumed more UnknownHint line id clause l rest = refl
by_verdict-resumed more ClauseLeftOut line id clause l rest = refl
by_verdict-resumed more IdOutOfRange line id clause l rest = refl

by_step-resumed : (more : List ℕ) (step : Step) (l : Ledger) (rest : Ledger → Outcome)
    → by_step step l (λ next. resumed more (rest next)) ≡ resumed more (by_step step l rest)
by_step-resumed more (addition line id clause hints) l rest = by_verdict-resumed more (verdict_of l id clause hints) line id clause l rest
by_step-resumed more (deletion ids) l rest = refl

unless-resumed : (more : List ℕ) (l : Ledger) (o : Outcome) → unless_refuted l (resumed more o) ≡ resumed more (unless_refuted l o)
unless-resumed more l o = elim (cases_Bool l.is_refuted) [
  | inl found ↦
      ap (λ b. if b then refutes l else resumed more o) found ∙ sym (ap (λ b. resumed more (if b then refutes l else o)) found)
  | inr unfound ↦
      ap (λ b. if b then refutes l else resumed more o) unfound ∙ sym (ap (λ b. resumed more (if b then refutes l else o)) unfound)
]

nothing-resumed : (s : State) (more : List ℕ) (l : Ledger) → outcome_of (text_of s more) l ≡ resumed more (outcome_of (text_of s []) l)
nothing-resumed s more l = elim (cases_Bool l.is_refuted) [
  | inl found ↦
      refuted_outcome (text_of s more) l found ∙ sym (ap (λ b. resumed more (if b then refutes l else reads s l)) found)
  | inr unfound ↦ sym (ap (λ b. resumed more (if b then refutes l else reads s l)) unfound)
]

transition-resumed : (transition : LratTransition) (s : State) (byte : ℕ) (bytes more : List ℕ)
    → ((next : State) (l : Ledger) → outcome_of (text_of next (bytes ++ more)) l ≡ resumed more (outcome_of (text_of next bytes) l))
    → (l : Ledger) → outcome_of (text_from transition s byte (λ next. text_of next (bytes ++ more))) l ≡ resumed more (outcome_of (text_from transition s byte (λ next. text_of next bytes)) l)
transition-resumed (GoesOn reading) s byte bytes more rest l = rest (state_after (GoesOn reading) byte s) l
transition-resumed (Begins id) s byte bytes more rest l = rest (state_after (Begins id) byte s) l
transition-resumed BeginsDeletion s byte bytes more rest l = rest (state_after BeginsDeletion byte s) l
transition-resumed (Takes literal) s byte bytes more rest l = rest (state_after (Takes literal) byte s) l
transition-resumed EndsClause s byte bytes more rest l = rest (state_after EndsClause byte s) l
transition-resumed (Names hint) s byte bytes more rest l = rest (state_after (Names hint) byte s) l
transition-resumed (Deletes id) s byte bytes more rest l = rest (state_after (Deletes id) byte s) l
transition-resumed Ends s byte bytes more rest l =
    let after = state_after Ends byte s in
    (λ i. unless_refuted l (by_step (step_of s) l (λ next. rest after next i)))
    ∙ ap (unless_refuted l) (by_step-resumed more (step_of s) l (λ next. outcome_of (text_of after bytes) next))
    ∙ unless-resumed more l (by_step (step_of s) l (λ next. outcome_of (text_of after bytes) next))
transition-resumed (Stops flaw) s byte bytes more rest l = unless-resumed more l (refuses (fault_at s.line flaw) l)

-- two pieces, one behind the other
pub outcome-pieces : (s : State) (bytes more : List ℕ) (l : Ledger) → outcome_of (text_of s (bytes ++ more)) l ≡ resumed more (outcome_of (text_of s bytes) l)
outcome-pieces s [] more l = nothing-resumed s more l
outcome-pieces s (byte ∷ bytes) more l = transition-resumed (turn_of s byte) s byte bytes more (λ next. outcome-pieces next bytes more) l
