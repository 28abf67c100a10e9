-- A run over two sources: a task, and the clausal proof with hints by which a SAT solver shows that
-- its question has no model.
use Rattle.std.specs.Prelude.{◌≡◌, ◌⊎◌, ℕ, List, Option, Result}
use Rattle.std.specs.Io.KnownBytes.{IsAtEnd}
use Rattle.wf_model.specs.Task.{Task}
use Rattle.wf_sat_formula.specs.Encoding.{question}
use Rattle.wf_base.specs.Streams.Seen.{Reading, Writing}
use Rattle.wf_sat_text.specs.Lrat.Text.{text_of}
use Rattle.wf_sat_check.specs.Lrat.Fed.{Outcome, outcome_at_end, outcome_of, proof_start, reads, refuses, refutes}
use Rattle.wf_sat_check.specs.Lrat.Ledger.{Ledger, ledger_of}
use Rattle.wf_sat_check.specs.Lrat.Models.{HasNoModel}
use Rattle.wf_sat_check.specs.declared.lrat.proof.LratFault.{LratFault}
use Rattle.wf_run.specs.Run.{Ran}
use Rattle.wf_run.specs.Sources.{AsksBoth}
use Rattle.wf_run_verify.specs.Proofs.{IsAcceptedNone, ReadsBytes}
use Rattle.wf_run.specs.declared.fault.RunFault.{RunFault}
use Rattle.wf_run.specs.declared.fault.RunFault.TheVariants.{Hints}

-- ---- what bytes come to

-- what the first bytes of a proof come to, about these clauses
abbrev pub outcome_so_far : Ledger → List ℕ → Outcome
outcome_so_far posed given = outcome_of (text_of (proof_start posed.variables) given) posed

-- what a proof comes to of which this is known before its end
abbrev pub closed : Outcome → Outcome
closed (reads state l) = outcome_at_end state l
closed (refutes l) = refutes l
closed (refuses fault l) = refuses fault l

-- what a whole proof comes to, about these clauses
abbrev pub whole_outcome : Ledger → List ℕ → Outcome
whole_outcome posed given = closed (outcome_so_far posed given)

-- the contradiction is found
abbrev pub IsRefuted : Outcome → Type 0
IsRefuted outcome = (l : Ledger) × (outcome ≡ refutes l)

-- ---- why a proof is refused

-- The first bytes of a proof are refused for this fault; or they are the whole proof, which is.
abbrev pub IsFaultOfHints : Ledger → List ℕ → Option (List ℕ) → LratFault → Ledger → Type 0
IsFaultOfHints posed given left fault l =
    (outcome_so_far posed given ≡ refuses fault l) ⊎ (IsAtEnd left × (whole_outcome posed given ≡ refuses fault l))

-- the fault of a proof that gave these bytes, about these clauses
abbrev pub AreRefusedHints : Ledger → List ℕ → Option (List ℕ) → RunFault → Type 0
AreRefusedHints posed given left (Hints fault) = (l : Ledger) × IsFaultOfHints posed given left fault l
AreRefusedHints posed given left e = ⊥

-- ---- what is made of a proof

-- a proof of these bytes comes to the contradiction, and these clauses have no model
abbrev pub AreAcceptedHints : Ledger → List ℕ → Type 0
AreAcceptedHints posed given = HasNoModel posed × IsRefuted (whole_outcome posed given)

-- A source's bytes as a proof about these clauses. If the proof is accepted, this holds of what is
-- answered, and the proof comes to the contradiction.
abbrev pub ReadsAsHints : {X : Type 0} → Ledger → (X → Type 0) → Reading → Reading → Result X RunFault → Type 0
ReadsAsHints posed holds old new result =
    ReadsBytes (λ given x. holds x × IsRefuted (whole_outcome posed given)) (AreRefusedHints posed) old new result

-- a source's bytes as a proof that there is no decision map: that the task's question has no model
abbrev pub ReadsHints : Task → ℕ → Reading → Reading → Result (Unit {0} × List ℕ) RunFault → Type 0
ReadsHints t r old new result = ReadsAsHints (ledger_of (question t r)) (IsAcceptedNone t r) old new result

-- The proof of a source was checked about the task of another source and r rounds, and that no
-- decision map is accepted was written. The task is read, and the limits are judged, before the
-- proof is read.
abbrev pub RefutesByHints : ℕ → Reading → Reading → Reading → Reading → Writing → Writing → Result (Unit {0}) RunFault → Type 0
RefutesByHints r task task' proof proof' sink sink' result = Ran (AsksBoth ReadsHints r task task' proof proof') sink sink' result
