-- The formula that a list of vectors holds, and why a proof of it is refused.
use Rattle.std.specs.Prelude.{◌≡◌, ◌⊎◌, ◌++◌, ℕ, List, [], ◌∷◌, Vec, map}
use Rattle.wf_sat_text.specs.Clauses.Formula.{Clause, Formula, Literal}
use Rattle.wf_sat_text.specs.Drat.Text.{State, Text, open_in, text_of}
use Rattle.wf_sat_check.specs.Rup.Fed.{IsFaultIn, IsReadTo, proof_start}
use Rattle.wf_sat_check.specs.Rup.Posed.{IsPosed}
use Rattle.wf_sat_check.specs.Rup.Seen.{Known}
use Rattle.wf_sat_check.specs.Rup.Unit.{DoesNotFollow}
use Rattle.wf_sat_check.specs.declared.rup.proof.ProofFault.{ProofFault}
use Rattle.wf_sat_check.specs.declared.rup.proof.ProofFault.TheVariants.{NoContradiction, OutOfMemory}

abbrev pub clauses_of : {A : Type 0} → List (Vec Literal A) → List Clause
clauses_of vectors = map (λ v. v.items) vectors

abbrev pub formula_of : {A : Type 0} → ℕ → List (Vec Literal A) → Formula
formula_of variables vectors = record { variables = variables; clauses = clauses_of vectors }

-- what the bytes of a proof say, of clauses on the variables from 1 to this
-- number: a line feed ends its last line
abbrev pub text_of_proof : ℕ → List ℕ → Text
text_of_proof variables given = text_of (proof_start variables) (given ++ 10 ∷ [])

-- the bytes leave off in this line, all steps of the proof are taken, and the contradiction does
-- not follow by unit propagation
pub record EndsUnrefuted (posed : Known) (given : List ℕ) (line : ℕ) (known : Known) : Type 0 where
  pub last : State
  pub end : (text_of (proof_start posed.variables) given).end ≡ open_in last
  pub in_line : line ≡ last.line
  pub next : State
  pub read : IsReadTo (text_of_proof posed.variables given) next posed known
  pub refused : DoesNotFollow known []

-- A proof of these bytes is refused for this fault, where this was known before its first step, and
-- that behind the steps that were taken: it ends too early; or it has a flaw, or a lemma that may
-- not be added, in the line that is named.
abbrev pub IsFaultOfProof : Known → List ℕ → Known → ProofFault → Type 0
IsFaultOfProof posed given known (NoContradiction line) = EndsUnrefuted posed given line known
IsFaultOfProof posed given known OutOfMemory = ⊥
IsFaultOfProof posed given known fault = IsFaultIn (text_of_proof posed.variables given) posed known fault

-- a checker that knows this refuses a proof of these bytes for this fault, or for want of memory
abbrev pub IsRefusedBy : Known → List ℕ → ProofFault → Type 0
IsRefusedBy posed given fault = (fault ≡ OutOfMemory) ⊎ ((known : Known) × IsFaultOfProof posed given known fault)

-- one that knows the formula and nothing else does
abbrev pub IsRefusedProofOf : Formula → List ℕ → ProofFault → Type 0
IsRefusedProofOf f given fault = (fault ≡ OutOfMemory) ⊎ ((posed : Known) × IsPosed f posed × IsRefusedBy posed given fault)
