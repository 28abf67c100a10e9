-- The counts of a run over a task and a solver's proof.
use Rattle.std.proofs.Common.{◌≡◌, ℕ, ◌+◌, ◌≤◌, List, length, Option, Result, Ok, Err, refl, arith}
use Rattle.wf_sat_text.specs.Clauses.Formula.{Formula}
use Rattle.wf_sat_formula.specs.Encoding.{question}
use Rattle.wf_base.specs.Streams.Seen.{Reading, Writing}
use Rattle.wf_run.specs.declared.fault.RunFault.{RunFault}
use Rattle.wf_run.specs.declared.fault.RunFault.TheVariants as run
use Rattle.wf_run.specs.Run.{failed_writes, by_result}
use Rattle.wf_run.specs.Laws.{IsChecked}
use Rattle.wf_run_verify.specs.Proofs.{IsAcceptedNone, IsOfBytes, IsRefusedProof, ReadsBytes, ReadsProof, ReadsProofOf, Refutes, most_proof_bytes}
use Rattle.wf_run.proofs.Lemmas.{IsReadCounted, counted_over_two}

module _ {X : Type 0} (accepts : List ℕ → X → Type 0) (refuses : List ℕ → Option (List ℕ) → RunFault → Type 0) (unrefused : (given : List ℕ) (left : Option (List ℕ)) → refuses given left run.Write → ⊥) where
  few : (given : List ℕ) (left : Option (List ℕ)) (result : Result X RunFault) → IsOfBytes accepts refuses given left result → length given ≤ most_proof_bytes + 1
  few given left (Ok x) is = let bound = is.2 in omega (arith, bound)
  few given left (Err run.TooLong) is = omega (arith, is)
  few given left (Err run.OutOfMemory) is = is
  few given left (Err run.Read) is = is
  few given left (Err e) is = is.1

  unwritten : (given : List ℕ) (left : Option (List ℕ)) (result : Result X RunFault) → IsOfBytes accepts refuses given left result → by_result failed_writes result ≡ 0
  unwritten given left (Ok x) is = refl
  unwritten given left (Err run.Write) is = absurd (unrefused given left is.0)
  unwritten given left (Err e) is = refl

-- whatever the format is, and what holds if the proof is accepted
pub bytes_counted : (accepts : List ℕ → Unit {0} × List ℕ → Type 0) (refuses : List ℕ → Option (List ℕ) → RunFault → Type 0) → ((given : List ℕ) (left : Option (List ℕ)) → refuses given left run.Write → ⊥)
    → (old new : Reading) (answer : Result (Unit {0} × List ℕ) RunFault) → ReadsBytes accepts refuses old new answer → IsReadCounted most_proof_bytes old new answer
bytes_counted accepts refuses unrefused old new answer (given, gave, is) =
    let bound = few accepts refuses unrefused given new.left answer is in
    record { taken = omega (arith, gave.taken, bound); failures = gave.failures; writes = unwritten accepts refuses unrefused given new.left answer is }

-- whatever the formula is, and what holds where the proof is accepted
pub proof_counted : (f : Formula) (holds : Unit {0} × List ℕ → Type 0) (old new : Reading) (answer : Result (Unit {0} × List ℕ) RunFault) → ReadsProofOf f holds old new answer
    → IsReadCounted most_proof_bytes old new answer
proof_counted f holds old new answer (posed, models, read) =
    bytes_counted (λ given answer. holds answer) (λ given left. IsRefusedProof posed given) (λ given left is. is) old new answer read

pub proved : (r : ℕ) (task task' proof proof' : Reading) (sink sink' : Writing) (result : Result (Unit {0}) RunFault)
    → Refutes r task task' proof proof' sink sink' result → IsChecked most_proof_bytes task task' proof proof' sink sink' result
proved r = counted_over_two most_proof_bytes ReadsProof r (λ t. proof_counted (question t r) (IsAcceptedNone t r))
