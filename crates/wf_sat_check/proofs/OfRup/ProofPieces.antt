-- What a checker makes of a proof's bytes, piece by piece.
use Rattle.std.proofs.Common.{◌≡◌, ◌⊎◌, ◌++◌, ◌∷◌, ℕ, Bool, true, false, List, [], inl, inr, refl, sym, subst}
use Rattle.wf_sat_check.specs.Rup.Fed.{IsFaultAtEnd, IsFaultIn, IsReadIn, IsReadTo, proof_start}
use Rattle.wf_sat_check.specs.Rup.Seen.{Known}
use Rattle.wf_sat_text.specs.Drat.Text.{State, text_of}
use Rattle.wf_sat_check.specs.declared.rup.proof.ProofFault.{ProofFault}
use Rattle.wf_sat_check.specs.declared.rup.proof.ProofFault.TheVariants.{NotALiteral, NoSuchVariable, NotImplied, NoContradiction, Binary, OutOfMemory}
use Rattle.wf_sat_check.specs.Rup.Whole.{IsRefusedBy, text_of_proof}
use Rattle.wf_sat_check.proofs.OfRup.Pieces.{fault_on, fault_still, no_fault, not_all, read_on}

-- the contradiction was found in these bytes, or all their steps were taken,
-- and the next one is read in this state
abbrev pub IsFed : Known → List ℕ → State → Known → Type 0
IsFed posed given state known = (known.is_refuted ≡ true) ⊎ IsReadTo (text_of (proof_start posed.variables) given) state posed known

either : (posed : Known) (refuted : Bool) → posed.is_refuted ≡ refuted → IsFed posed [] (proof_start posed.variables) posed
either posed true is = inl is
either posed false is = inr (record { all = record { taken = refl; unrefuted = is }; end = refl })

pub nothing_fed : (posed : Known) (state : State) → state ≡ proof_start posed.variables → IsFed posed [] state posed
nothing_fed posed state same = subst (λ s. IsFed posed [] s posed) (sym same) (either posed posed.is_refuted refl)

module _ (posed : Known) (given : List ℕ) (state : State) (known : Known) where
  -- a piece more
  pub fed_more : (piece : List ℕ) (next : State) (new : Known) → IsFed posed given state known → IsReadIn (text_of state piece) next known new → IsFed posed (given ++ piece) next new
  fed_more piece next new fed (inl found) = inl found.refuted
  fed_more piece next new (inl refuted) (inr read) = absurd (not_all (text_of state piece) known new refuted read.all)
  fed_more piece next new (inr first) (inr read) = inr (read_on (proof_start posed.variables) state given piece posed known new first next read)

  of_fault : (new : Known) (e : ProofFault) → IsFaultIn (text_of_proof posed.variables given) posed new e → IsRefusedBy posed given e
  of_fault new (NotALiteral line) fault = inr (new, fault)
  of_fault new (NoSuchVariable line) fault = inr (new, fault)
  of_fault new (NotImplied line) fault = inr (new, fault)
  of_fault new (NoContradiction line) fault = absurd fault
  of_fault new Binary fault = inr (new, fault)
  of_fault new OutOfMemory fault = inl refl

  -- behind the contradiction nothing is refused at the end but for want of memory
  refuted_at_end : (new : Known) (e : ProofFault) → known.is_refuted ≡ true → IsFaultAtEnd state known new e → e ≡ OutOfMemory
  refuted_at_end new (NotALiteral line) refuted fault = no_fault _ known new (NotALiteral line) refuted fault
  refuted_at_end new (NoSuchVariable line) refuted fault = no_fault _ known new (NoSuchVariable line) refuted fault
  refuted_at_end new (NotImplied line) refuted fault = no_fault _ known new (NotImplied line) refuted fault
  refuted_at_end new (NoContradiction line) refuted fault = absurd (not_all _ known new refuted fault.read.all)
  refuted_at_end new Binary refuted fault = no_fault _ known new Binary refuted fault
  refuted_at_end new OutOfMemory refuted fault = refl

  -- the fault is in the last line, or it has none, and the contradiction is missing
  open_at_end : (new : Known) (e : ProofFault) → IsReadTo (text_of (proof_start posed.variables) given) state posed known → IsFaultAtEnd state known new e → IsRefusedBy posed given e
  open_at_end new (NotALiteral line) read fault = inr (new, fault_on (proof_start posed.variables) state given (10 ∷ []) posed known new read (NotALiteral line) fault)
  open_at_end new (NoSuchVariable line) read fault = inr (new, fault_on (proof_start posed.variables) state given (10 ∷ []) posed known new read (NoSuchVariable line) fault)
  open_at_end new (NotImplied line) read fault = inr (new, fault_on (proof_start posed.variables) state given (10 ∷ []) posed known new read (NotImplied line) fault)
  open_at_end new (NoContradiction line) read fault = inr (
    new,
    record {
      last = state;
      end = read.end;
      in_line = fault.in_line;
      next = fault.next;
      read = read_on (proof_start posed.variables) state given (10 ∷ []) posed known new read fault.next fault.read;
      refused = fault.refused;
    },
  )
  open_at_end new Binary read fault = inr (new, fault_on (proof_start posed.variables) state given (10 ∷ []) posed known new read Binary fault)
  open_at_end new OutOfMemory read fault = inl refl

  -- the proof is refused at its end
  pub refusal_at_end : (new : Known) (e : ProofFault) → IsFed posed given state known → IsFaultAtEnd state known new e → IsRefusedBy posed given e
  refusal_at_end new e (inl refuted) fault = inl (refuted_at_end new e refuted fault)
  refusal_at_end new e (inr read) fault = open_at_end new e read fault

module _ (posed : Known) (given : List ℕ) (state : State) (known : Known) (piece : List ℕ) (new : Known) (e : ProofFault) where
  -- a piece is refused
  pub refusal_fed : IsFed posed given state known → IsFaultIn (text_of state piece) known new e → IsRefusedBy posed (given ++ piece) e
  refusal_fed (inl refuted) fault = inl (no_fault _ known new e refuted fault)
  refusal_fed (inr read) fault =
      let start = proof_start posed.variables in
      of_fault posed (given ++ piece) state known new e
      (fault_still start (given ++ piece) (10 ∷ []) posed new e (fault_on start state given piece posed known new read e fault))
