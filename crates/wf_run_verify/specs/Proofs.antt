-- A run over two sources: a task, and the clausal proof by which a SAT solver
-- shows that its question has no model.
use Rattle.std.specs.Prelude.{◌≡◌, ◌≤◌, ◌+◌, ◌^◌, ℕ, List, [], length, Option, Some, Result, Ok, Err}
use Rattle.std.specs.Io.KnownBytes.{IsAtEnd}
use Rattle.wf_model.specs.Task.{Task}
use Rattle.wf_model.specs.DecisionMap.{HasNoDecisionMap}
use Rattle.wf_model.specs.Report.{none}
use Rattle.wf_sat_text.specs.Clauses.Formula.{Formula}
use Rattle.wf_sat_formula.specs.Encoding.{question}
use Rattle.wf_base.specs.Streams.Seen.{Reading, Writing}
use Rattle.wf_base.specs.Streams.Texts.{Gave}
use Rattle.wf_sat_check.specs.Rup.Seen.{Known}
use Rattle.wf_sat_check.specs.Rup.Whole.{IsFaultOfProof}
use Rattle.wf_sat_check.specs.Rup.Posed.{IsPosed}
use Rattle.wf_run.specs.Run.{Ran, by_result, failed_reads}
use Rattle.wf_run.specs.Sources.{AsksBoth}
use Rattle.wf_run_verify.specs.Verify.{accepted_text}
use Rattle.wf_run.specs.declared.fault.RunFault.{RunFault}
use Rattle.wf_run.specs.declared.fault.RunFault.TheVariants.{Proof, OutOfMemory, Read, TooLong}

-- a proof has at most so many bytes
abbrev pub most_proof_bytes : ℕ
most_proof_bytes = 2 ^ 62

-- ---- what is made of a proof, in any format

-- What is made of the bytes that a source gave as a proof. If the proof is accepted, this holds of
-- its bytes and of what is answered, and the source is at its end. If the proof is refused for a
-- fault of its own, that holds of its bytes, of what the source has left, and of the fault. There
-- are too many bytes if there is one more than a proof may have.
abbrev pub IsOfBytes : {X : Type 0} → (List ℕ → X → Type 0) → (List ℕ → Option (List ℕ) → RunFault → Type 0) → List ℕ → Option (List ℕ)
    → Result X RunFault → Type 0
IsOfBytes accepts refuses given left (Ok x) = accepts given x × IsAtEnd left × (length given ≤ most_proof_bytes)
IsOfBytes accepts refuses given left (Err TooLong) = length given ≡ most_proof_bytes + 1
IsOfBytes accepts refuses given left (Err OutOfMemory) = length given ≤ most_proof_bytes + 1
IsOfBytes accepts refuses given left (Err Read) = length given ≤ most_proof_bytes + 1
IsOfBytes accepts refuses given left (Err e) = refuses given left e × (length given ≤ most_proof_bytes + 1)

-- a source's bytes as a proof
abbrev pub ReadsBytes : {X : Type 0} → (List ℕ → X → Type 0) → (List ℕ → Option (List ℕ) → RunFault → Type 0) → Reading → Reading
    → Result X RunFault → Type 0
ReadsBytes accepts refuses old new result =
    (given : List ℕ) × Gave old new given (by_result failed_reads result) × IsOfBytes accepts refuses given new.left result

-- why bytes of a proof are refused: memory ran out, or they have such a fault
abbrev pub IsFaultFor : (RunFault → Type 0) → RunFault → Type 0
IsFaultFor refuses TooLong = ⊥
IsFaultFor refuses OutOfMemory = Unit {0}
IsFaultFor refuses Read = ⊥
IsFaultFor refuses e = refuses e

-- ---- what is made of a clausal proof

-- the fault of a proof of these bytes, where this was known before it
abbrev pub IsRefusedProof : Known → List ℕ → RunFault → Type 0
IsRefusedProof posed given (Proof fault) = (known : Known) × IsFaultOfProof posed given known fault
IsRefusedProof posed given e = ⊥

-- A source's bytes as a proof, where this was known before it. If the proof is accepted, this
-- holds of what is answered.
abbrev pub ReadsAsProof : {X : Type 0} → Known → (X → Type 0) → Reading → Reading → Result X RunFault → Type 0
ReadsAsProof posed holds old new result = ReadsBytes (λ given x. holds x) (λ given left. IsRefusedProof posed given) old new result

-- the same of a formula: what was known is this formula, with its variables
-- and each of its clauses kept, and no other clause
abbrev pub ReadsProofOf : Formula → (Unit {0} × List ℕ → Type 0) → Reading → Reading → Result (Unit {0} × List ℕ) RunFault → Type 0
ReadsProofOf f holds old new result = (posed : Known) × IsPosed f posed × ReadsAsProof posed holds old new result

-- there is no decision map, and the text is the line that says that this is
-- accepted for these rounds
abbrev pub IsAcceptedNone : Task → ℕ → Unit {0} × List ℕ → Type 0
IsAcceptedNone t r answer = HasNoDecisionMap t r × (answer.1 ≡ accepted_text (Some r) (none []))

-- a source's bytes as a proof that there is no decision map: that the task's question has no model
abbrev pub ReadsProof : Task → ℕ → Reading → Reading → Result (Unit {0} × List ℕ) RunFault → Type 0
ReadsProof t r old new result = ReadsProofOf (question t r) (IsAcceptedNone t r) old new result

-- the task is read, and the limits are judged, before the other text is read
abbrev pub AsksRefutation : ℕ → Reading → Reading → Reading → Reading → Result (Unit {0} × List ℕ) RunFault → Type 0
AsksRefutation r task task' proof proof' result = AsksBoth ReadsProof r task task' proof proof' result

-- The proof of a source was checked about the task of another source and r rounds, and that no
-- decision map is accepted was written.
abbrev pub Refutes : ℕ → Reading → Reading → Reading → Reading → Writing → Writing → Result (Unit {0}) RunFault → Type 0
Refutes r task task' proof proof' sink sink' result = Ran (AsksRefutation r task task' proof proof') sink sink' result
