-- What a checker makes of a proof's bytes.
use Rattle.std.specs.Prelude.{◌≡◌, ◌⊎◌, ℕ, List, [], ◌∷◌, if◌then◌else◌}
use Rattle.wf_sat_text.specs.Clauses.Formula.{Clause}
use Rattle.wf_sat_text.specs.Drat.Codes.{last_variable}
use Rattle.wf_sat_text.specs.Lrat.Text.{End, State, Step, Text, addition, at_start, broken_in, deletion, open_in, text_of}
use Rattle.wf_sat_text.specs.declared.lrat.reader.LratParseError.{LratParseError}
use Rattle.wf_sat_text.specs.declared.lrat.reader.LratParseError.TheVariants as flaw
use Rattle.wf_sat_check.specs.Lrat.Ledger.{Ledger, deleted, learned}
use Rattle.wf_sat_check.specs.Lrat.Hints.{verdict_of}
use Rattle.wf_sat_check.specs.declared.lrat.verdict.LratVerdict.{LratVerdict}
use Rattle.wf_sat_check.specs.declared.lrat.verdict.LratVerdict.TheVariants as verdict
use Rattle.wf_sat_check.specs.declared.lrat.proof.LratFault.{LratFault}
use Rattle.wf_sat_check.specs.declared.lrat.proof.LratFault.TheVariants.{NotALiteral, NoSuchVariable, NoConflict, UnknownHint, ClauseLeftOut, IdOutOfRange, NoContradiction, Binary, OutOfMemory}

-- where a proof's text begins, of clauses on the variables from 1 to this
-- number: it may bring in further ones
abbrev pub proof_start : ℕ → State
proof_start variables = at_start (last_variable variables)

-- a text is read to its end, where this is known; or the contradiction is
-- found; or the text is refused
pub data Outcome : Type 0 where
  reads : State → Ledger → Outcome
  refutes : Ledger → Outcome
  refuses : LratFault → Ledger → Outcome

-- the fault that a flaw is in a line
abbrev pub fault_at : ℕ → LratParseError → LratFault
fault_at line flaw.NotALiteral = NotALiteral line
fault_at line flaw.NoSuchVariable = NoSuchVariable line
fault_at line flaw.Binary = Binary

-- a clause with this verdict is learned, and then the rest of the text is
-- read; or it is refused
abbrev pub by_verdict : LratVerdict → ℕ → ℕ → Clause → Ledger → (Ledger → Outcome) → Outcome
by_verdict verdict.Conflict line id clause l rest = rest (learned id clause l)
by_verdict verdict.NoConflict line id clause l rest = refuses (NoConflict line) l
by_verdict verdict.UnknownHint line id clause l rest = refuses (UnknownHint line) l
by_verdict verdict.ClauseLeftOut line id clause l rest = refuses (ClauseLeftOut line) l
by_verdict verdict.IdOutOfRange line id clause l rest = refuses (IdOutOfRange line) l

-- a step is taken, and then the rest of the text is read; or it is refused
abbrev pub by_step : Step → Ledger → (Ledger → Outcome) → Outcome
by_step (addition line id clause hints) l rest = by_verdict (verdict_of l id clause hints) line id clause l rest
by_step (deletion ids) l rest = rest (deleted ids l)

-- nothing is read behind the contradiction
abbrev pub unless_refuted : Ledger → Outcome → Outcome
unless_refuted l outcome = if l.is_refuted then refutes l else outcome

abbrev pub by_end : End → Ledger → Outcome
by_end (open_in state) l = reads state l
by_end (broken_in line flaw) l = refuses (fault_at line flaw) l

-- these steps are taken one by one, and then the text ends so
abbrev pub by_steps : List Step → End → Ledger → Outcome
by_steps [] end l = unless_refuted l (by_end end l)
by_steps (step ∷ steps) end l = unless_refuted l (by_step step l (λ next. by_steps steps end next))

-- what a text comes to where this is known
abbrev pub outcome_of : Text → Ledger → Outcome
outcome_of text l = by_steps text.steps text.end l

-- the bytes of a piece were read, or the contradiction was found among them
abbrev pub IsReadTo : Outcome → State → Ledger → Type 0
IsReadTo outcome state l = (outcome ≡ reads state l) ⊎ (outcome ≡ refutes l)

-- the text is refused for this fault, or memory ran out
abbrev pub IsRefusedFor : Outcome → LratFault → Ledger → Type 0
IsRefusedFor outcome fault l = (fault ≡ OutOfMemory) ⊎ (outcome ≡ refuses fault l)

-- a text that ends in this line without the contradiction is refused
abbrev pub closed_in : ℕ → Outcome → Outcome
closed_in line (reads state l) = refuses (NoContradiction line) l
closed_in line (refutes l) = refutes l
closed_in line (refuses fault l) = refuses fault l

-- what is still to be read at a proof's end: that of its last line
abbrev pub outcome_at_end : State → Ledger → Outcome
outcome_at_end state l = closed_in state.line (outcome_of (text_of state (10 ∷ [])) l)
