-- What bytes of a proof with hints come to, as they are read piece by piece.
use Rattle.std.proofs.Common.{◌≡◌, ℕ, List, [], ◌∷◌, ◌++◌, true, Option, inl, inr, sym, ap, ◌∙◌, subst}
use Rattle.std.specs.Prelude.{if◌then◌else◌}
use Rattle.std.proofs.lemmas.Bool.{cases_Bool}
use Rattle.std.specs.Io.KnownBytes.{IsAtEnd}
use Rattle.wf_sat_text.specs.Clauses.Formula.{Clause}
use Rattle.wf_sat_text.specs.Lrat.Text.{End, State, Step, Text, addition, broken_in, deletion, open_in, text_of}
use Rattle.wf_sat_check.specs.Lrat.Fed.{IsReadTo, IsRefusedFor, Outcome, by_end, by_step, by_steps, by_verdict, closed_in, outcome_at_end, outcome_of, proof_start, reads, refuses, refutes, unless_refuted}
use Rattle.wf_sat_check.specs.Lrat.Hints.{verdict_of}
use Rattle.wf_sat_check.specs.Lrat.Ledger.{Ledger, deleted, learned}
use Rattle.wf_sat_check.specs.Lrat.Models.{HasNoModel, KeepsSatisfiable}
use Rattle.wf_sat_check.specs.declared.lrat.verdict.LratVerdict.{LratVerdict}
use Rattle.wf_sat_check.specs.declared.lrat.verdict.LratVerdict.TheVariants as verdict
use Rattle.wf_sat_check.specs.declared.lrat.proof.LratFault.{LratFault}
use Rattle.wf_sat_check.specs.declared.lrat.proof.LratFault.TheVariants as hints
use Rattle.wf_sat_check.proofs.OfLrat.Lemmas.{refuted_outcome, no_model_before, satisfiable_on, satisfiable_same, outcome-pieces, resumed}
use Rattle.wf_run_verify.specs.Hints.{AreAcceptedHints, AreRefusedHints, IsFaultOfHints, IsRefuted, closed, outcome_so_far, whole_outcome}
use Rattle.wf_run_verify.specs.Readers.{HasReadHints}
use Rattle.wf_run_verify.specs.Proofs.{IsFaultFor}
use Rattle.wf_run.specs.Faults.{of_hints}

-- ---- outcomes that differ

reads-refutes : (s : State) (l l' : Ledger) → reads s l ≡ refutes l' → ⊥
reads-refutes s l l' e = cc

refuses-refutes : (fault : LratFault) (l l' : Ledger) → refuses fault l ≡ refutes l' → ⊥
refuses-refutes fault l l' e = cc

same_refuted : (l l' : Ledger) → refutes l ≡ refutes l' → l ≡ l'
same_refuted l l' e = cc

-- ---- where the contradiction is found

-- it is known then
abbrev Knows : Outcome → Type 0
Knows outcome = (l : Ledger) → outcome ≡ refutes l → l.is_refuted ≡ true

unless_known : (l : Ledger) (outcome : Outcome) → Knows outcome → Knows (unless_refuted l outcome)
unless_known l outcome rest l' e = elim (cases_Bool l.is_refuted) [
  | inl found ↦ subst (λ k. k.is_refuted ≡ true) (same_refuted l l' (sym (ap (λ b. if b then refutes l else outcome) found) ∙ e)) found
  | inr unfound ↦ rest l' (sym (ap (λ b. if b then refutes l else outcome) unfound) ∙ e)
]

by_verdict_known : (v : LratVerdict) (line id : ℕ) (clause : Clause) (l : Ledger) (rest : Ledger → Outcome) → ((next : Ledger) → Knows (rest next)) → Knows (by_verdict v line id clause l rest)
by_verdict_known verdict.Conflict line id clause l rest known = known (learned id clause l)
by_verdict_known verdict.NoConflict line id clause l rest known = λ l' e. absurd (refuses-refutes (hints.NoConflict line) l l' e)
by_verdict_known verdict.UnknownHint line id clause l rest known = λ l' e. absurd (refuses-refutes (hints.UnknownHint line) l l' e)
by_verdict_known verdict.ClauseLeftOut line id clause l rest known = λ l' e. absurd (refuses-refutes (hints.ClauseLeftOut line) l l' e)
by_verdict_known verdict.IdOutOfRange line id clause l rest known = λ l' e. absurd (refuses-refutes (hints.IdOutOfRange line) l l' e)

by_step_known : (step : Step) (l : Ledger) (rest : Ledger → Outcome) → ((next : Ledger) → Knows (rest next)) → Knows (by_step step l rest)
by_step_known (addition line id clause named) l rest known = by_verdict_known (verdict_of l id clause named) line id clause l rest known
by_step_known (deletion ids) l rest known = known (deleted ids l)

by_end_known : (end : End) (l : Ledger) → Knows (by_end end l)
by_end_known (open_in state) l = λ l' e. absurd (reads-refutes state l l' e)
by_end_known (broken_in line flaw) l = λ l' e. absurd (refuses-refutes _ l l' e)

steps_known : (steps : List Step) (end : End) (l : Ledger) → Knows (by_steps steps end l)
steps_known [] end l = unless_known l (by_end end l) (by_end_known end l)
steps_known (step ∷ steps) end l = unless_known l (by_step step l (λ next. by_steps steps end next)) (by_step_known step l (λ next. by_steps steps end next) (λ next. steps_known steps end next))

-- further bytes change nothing then
found_stays : (text other : Text) (l found : Ledger) → outcome_of text l ≡ refutes found → outcome_of other found ≡ refutes found
found_stays text other l found e = refuted_outcome other found (steps_known text.steps text.end l found e)

-- ---- piece by piece

none_fed : (posed : Ledger) (state : State) → state ≡ proof_start posed.variables → IsReadTo (outcome_so_far posed []) state posed
none_fed posed state same = elim (cases_Bool posed.is_refuted) [
  | inl found ↦ inr (ap (λ b. if b then refutes posed else reads (proof_start posed.variables) posed) found)
  | inr unfound ↦ inl (ap (λ b. if b then refutes posed else reads (proof_start posed.variables) posed) unfound ∙ ap (λ s. reads s posed) (sym same))
]

module _ (posed : Ledger) (given : List ℕ) (state : State) (left : Ledger) where
  -- what further bytes come to, by where the text is read
  further : (more : List ℕ) → IsReadTo (outcome_so_far posed given) state left → outcome_so_far posed (given ++ more) ≡ outcome_of (text_of state more) left
  further more (inl e) = outcome-pieces (proof_start posed.variables) given more posed ∙ ap (resumed more) e
  further more (inr e) =
      outcome-pieces (proof_start posed.variables) given more posed ∙ ap (resumed more) e ∙ sym (found_stays (text_of (proof_start posed.variables) given) (text_of state more) posed left e)

  more_fed : (piece : List ℕ) (state' : State) (left' : Ledger) → IsReadTo (outcome_so_far posed given) state left → IsReadTo (outcome_of (text_of state piece) left) state' left' → IsReadTo (outcome_so_far posed (given ++ piece)) state' left'
  more_fed piece state' left' fed (inl e) = inl (further piece fed ∙ e)
  more_fed piece state' left' fed (inr e) = inr (further piece fed ∙ e)

  -- what the whole comes to where there is nothing more
  whole : IsReadTo (outcome_so_far posed given) state left → whole_outcome posed given ≡ outcome_at_end state left
  whole (inl e) = ap closed e
  whole (inr e) = ap closed e ∙ sym (ap (closed_in state.line) (found_stays (text_of (proof_start posed.variables) given) (text_of state (10 ∷ [])) posed left e))

  whole_refuted : (new : Ledger) → IsReadTo (outcome_so_far posed given) state left → outcome_at_end state left ≡ refutes new → IsRefuted (whole_outcome posed given)
  whole_refuted new fed e = (new, whole fed ∙ e)

-- ---- what was read of a proof

-- nothing was read
pub nothing_read : (posed : Ledger) (state : State) → state ≡ proof_start posed.variables → HasReadHints posed [] state posed
nothing_read posed state same = (satisfiable_same posed, none_fed posed state same)

module _ (posed : Ledger) (given : List ℕ) (rest : Option (List ℕ)) where
  of_fault : (l : Ledger) (e : LratFault) → IsFaultOfHints posed given rest e l → IsFaultFor (AreRefusedHints posed given rest) (of_hints e)
  of_fault l (hints.NotALiteral line) fault = (l, fault)
  of_fault l (hints.NoSuchVariable line) fault = (l, fault)
  of_fault l (hints.ClauseLeftOut line) fault = (l, fault)
  of_fault l (hints.NoConflict line) fault = (l, fault)
  of_fault l (hints.UnknownHint line) fault = (l, fault)
  of_fault l (hints.IdOutOfRange line) fault = (l, fault)
  of_fault l (hints.NoContradiction line) fault = (l, fault)
  of_fault l hints.Binary fault = (l, fault)
  of_fault l hints.OutOfMemory fault = tt

  of_memory : (e : LratFault) → e ≡ hints.OutOfMemory → IsFaultFor (AreRefusedHints posed given rest) (of_hints e)
  of_memory e same = subst (λ fault. IsFaultFor (AreRefusedHints posed given rest) (of_hints fault)) (sym same) tt

module _ (posed : Ledger) (given : List ℕ) (state : State) (left : Ledger) (read : HasReadHints posed given state left) where
  -- a piece was read
  pub piece_read : (piece : List ℕ) (state' : State) (left' : Ledger) → KeepsSatisfiable left left' → IsReadTo (outcome_of (text_of state piece) left) state' left' → HasReadHints posed (given ++ piece) state' left'
  piece_read piece state' left' keeps fed = (satisfiable_on posed left left' read.0 keeps, more_fed posed given state left piece state' left' read.1 fed)

  -- a piece is refused
  pub piece_refused : (rest : Option (List ℕ)) (piece : List ℕ) (new : Ledger) (e : LratFault) → IsRefusedFor (outcome_of (text_of state piece) left) e new
      → IsFaultFor (AreRefusedHints posed (given ++ piece) rest) (of_hints e)
  piece_refused rest piece new e (inl memory) = of_memory posed (given ++ piece) rest e memory
  piece_refused rest piece new e (inr is) = of_fault posed (given ++ piece) rest new e (inl (further posed given state left piece read.1 ∙ is))

  -- the proof is accepted at its end
  pub end_accepted : (new : Ledger) → HasNoModel left → outcome_at_end state left ≡ refutes new → AreAcceptedHints posed given
  end_accepted new refuted is = (no_model_before posed left read.0 refuted, whole_refuted posed given state left new read.1 is)

  -- the proof is refused at its end
  pub end_refused : (rest : Option (List ℕ)) → IsAtEnd rest → (new : Ledger) (e : LratFault) → IsRefusedFor (outcome_at_end state left) e new → IsFaultFor (AreRefusedHints posed given rest) (of_hints e)
  end_refused rest end new e (inl memory) = of_memory posed given rest e memory
  end_refused rest end new e (inr is) = of_fault posed given rest new e (inr (end, whole posed given state left read.1 ∙ is))
