-- What a checker makes of a clausal proof's bytes, as an engine tells it.
use Rattle.std.proofs.Common.{ℕ, ◌++◌, List, [], inl, inr, sym, subst, ◌≡◌}
use Rattle.wf_sat_text.specs.Drat.Text.{State, text_of}
use Rattle.wf_sat_check.specs.Rup.Fed.{IsFaultAtEnd, IsFaultIn, IsReadIn, proof_start}
use Rattle.wf_sat_check.specs.Rup.Rat.{KeepsSatisfiable}
use Rattle.wf_sat_check.specs.Rup.Seen.{HasNoModel, Known}
use Rattle.wf_sat_check.specs.Rup.Whole.{IsFaultOfProof, IsRefusedBy}
use Rattle.wf_sat_check.specs.declared.rup.proof.ProofFault.{ProofFault}
use Rattle.wf_sat_check.specs.declared.rup.proof.ProofFault.TheVariants.{NotALiteral, NoSuchVariable, NotImplied, NoContradiction, Binary, OutOfMemory}
use Rattle.wf_sat_check.proofs.OfRup.Lemmas.{fed_more, nothing_fed, refusal_at_end, refusal_fed, no-model-before, satisfiable-on, satisfiable-same}
use Rattle.wf_run.specs.Faults.{of_proof}
use Rattle.wf_run_verify.specs.Proofs.{IsFaultFor, IsRefusedProof}
use Rattle.wf_run_verify.specs.Readers.{HasReadProof}

of_fault : (posed : Known) (given : List ℕ) (known : Known) (e : ProofFault) → IsFaultOfProof posed given known e → IsFaultFor (IsRefusedProof posed given) (of_proof e)
of_fault posed given known (NotALiteral line) fault = (known, fault)
of_fault posed given known (NoSuchVariable line) fault = (known, fault)
of_fault posed given known (NotImplied line) fault = (known, fault)
of_fault posed given known (NoContradiction line) fault = (known, fault)
of_fault posed given known Binary fault = (known, fault)
of_fault posed given known OutOfMemory fault = tt

told : (posed : Known) (given : List ℕ) (e : ProofFault) → IsRefusedBy posed given e → IsFaultFor (IsRefusedProof posed given) (of_proof e)
told posed given e (inl memory) = subst (λ fault. IsFaultFor (IsRefusedProof posed given) (of_proof fault)) (sym memory) tt
told posed given e (inr (known, fault)) = of_fault posed given known e fault

-- nothing was read
pub nothing_read : (posed : Known) (state : State) → state ≡ proof_start posed.variables → HasReadProof posed [] state posed
nothing_read posed state same = (satisfiable-same posed, nothing_fed posed state same)

module _ (posed : Known) (given : List ℕ) (state : State) (known : Known) (read : HasReadProof posed given state known) where
  -- a piece was read
  pub piece_read : (piece : List ℕ) (next : State) (new : Known) → KeepsSatisfiable known new → IsReadIn (text_of state piece) next known new → HasReadProof posed (given ++ piece) next new
  piece_read piece next new keeps fed = (satisfiable-on posed known new read.0 keeps, fed_more posed given state known piece next new read.1 fed)

  -- a piece is refused
  pub piece_refused : (piece : List ℕ) (new : Known) (e : ProofFault) → IsFaultIn (text_of state piece) known new e → IsFaultFor (IsRefusedProof posed (given ++ piece)) (of_proof e)
  piece_refused piece new e fault = told posed (given ++ piece) e (refusal_fed posed given state known piece new e read.1 fault)

  -- the proof is accepted at its end
  pub end_accepted : HasNoModel known → HasNoModel posed
  end_accepted refuted = no-model-before posed known read.0 refuted

  -- the proof is refused at its end
  pub end_refused : (new : Known) (e : ProofFault) → IsFaultAtEnd state known new e → IsFaultFor (IsRefusedProof posed given) (of_proof e)
  end_refused new e fault = told posed given e (refusal_at_end posed given state known new e read.1 fault)
