-- From the bytes of a proof, in any format, to what a run over it answers.
use Rattle.std.proofs.Common.{◌≡◌, ◌+◌, ◌≤◌, ℕ, List, length, take, ◌++◌, Option, Vec, Result, Ok, Err, sym, ap, ◌∙◌, subst, arith, append-nil, length-append}
use Rattle.std.specs.Prelude.{IfErr, IfOk}
use Rattle.std.proofs.KnownBytes.{Consumes-trans}
use Rattle.std.specs.Io.KnownBytes.{Consumes, IsAtEnd}
use Rattle.wf_base.specs.Streams.Seen.{Reading}
use Rattle.wf_base.specs.Streams.Texts.{Gave}
use Rattle.wf_run.specs.Run.{answered}
use Rattle.wf_run.specs.declared.fault.RunFault.{RunFault}
use Rattle.wf_run.specs.declared.fault.RunFault.TheVariants as run
use Rattle.wf_run.proofs.Lemmas.{IsRefusal}
use Rattle.wf_run_verify.specs.Proofs.{IsFaultFor, IsOfBytes, ReadsBytes, most_proof_bytes}

-- a source gave these bytes, so many
pub record IsGiven (old new : Reading) (given : List ℕ) (count : ℕ) : Type 0 where
  pub gave : Gave old new given 0
  pub counted : length given ≡ count

-- what was read of a proof, by the number of its bytes, and what holds of these bytes
pub record IsRead (old new : Reading) (holds : List ℕ → Type 0) (count : ℕ) : Type 0 where
  pub given : List ℕ
  pub source : IsGiven old new given count
  pub read : holds given

module _ (old mid new : Reading) (given : List ℕ) (count : ℕ) (before : IsGiven old mid given count) where
  -- a piece more
  piece_given : (n : ℕ) (piece : List ℕ) → n ≡ length piece → Consumes mid.left new.left piece → new.taken ≡ mid.taken + n → new.failures ≡ mid.failures + 0
      → IsGiven old new (given ++ piece) (count + n)
  piece_given n piece long bytes taken failures =
      let gave = before.gave in
      let all = length-append given piece in
      let counted = before.counted in
      record {
        gave = record {
          bytes_are = Consumes-trans _ _ _ _ _ gave.bytes_are bytes;
          taken = omega (arith, gave.taken, taken, long, all);
          failures = omega (arith, gave.failures, failures);
        };
        counted = omega (arith, all, counted, long);
      }

  -- nothing more
  none_given : (n : ℕ) (piece : List ℕ) → n ≡ 0 → Consumes mid.left new.left (take n piece) → new.taken ≡ mid.taken + n → new.failures ≡ mid.failures + 0
      → IsGiven old new given count
  none_given n piece empty bytes taken failures =
      let gave = before.gave in
      record {
        gave = record {
          bytes_are = subst (Consumes old.left new.left) (ap (λ k. given ++ take k piece) empty ∙ append-nil given) (Consumes-trans _ _ _ _ _ gave.bytes_are bytes);
          taken = omega (arith, gave.taken, taken, empty);
          failures = omega (arith, gave.failures, failures);
        };
        counted = before.counted;
      }

module _ {X : Type 0} (accepts : List ℕ → X → Type 0) (refuses : List ℕ → Option (List ℕ) → RunFault → Type 0) where
  -- a fault is told of what was given
  module _ (old new : Reading) (given : List ℕ) (count : ℕ) (source : IsGiven old new given count) (few : count ≤ most_proof_bytes + 1) where
    bound : length given ≤ most_proof_bytes + 1
    bound = let counted = source.counted in omega (arith, counted, few)

    fault_told : (e : RunFault) → IsFaultFor (refuses given new.left) e → ReadsBytes accepts refuses old new (Err e)
    fault_told run.TooLong why = absurd why
    fault_told run.OutOfMemory why = (given, source.gave, bound)
    fault_told run.Read why = absurd why
    fault_told e why = (given, source.gave, (why, bound))

  module _ (old mid new : Reading) (holds : List ℕ → Type 0) (count : ℕ) (before : IsRead old mid holds count) where
    -- a piece was refused
    pub piece_refused : (n : ℕ) (piece : List ℕ) (e : RunFault) (result : Result X RunFault) → n ≡ length piece → Consumes mid.left new.left piece → new.taken ≡ mid.taken + n
        → new.failures ≡ mid.failures + 0 → count + n ≤ most_proof_bytes + 1
        → ((given : List ℕ) → holds given → IsFaultFor (refuses (given ++ piece) new.left) e) → IsRefusal e result → ReadsBytes accepts refuses old new result
    piece_refused n piece e (Ok x) long bytes taken failures few why is = absurd (let ended = is.0 in let bad : ⊥ = cc in bad)
    piece_refused n piece e (Err found) long bytes taken failures few why is = subst (λ fault. ReadsBytes accepts refuses old new (Err fault)) (sym is.1)
        (fault_told old new (before.given ++ piece) (count + n) (piece_given old mid new before.given count before.source n piece long bytes taken failures) few e (why before.given before.read))

-- there was nothing more, and what read these bytes accepts or refuses the proof
module _ {X S : Type 0} (holds : S → List ℕ → Type 0) (accepts : S → List ℕ → X → Type 0) (refuses : S → List ℕ → Option (List ℕ) → RunFault → Type 0) (begun : S)
    (old mid new : Reading) (count : ℕ) (before : IsRead old mid (holds begun) count) where
  pub ended : (n : ℕ) (piece : List ℕ) → n ≡ 0 → Consumes mid.left new.left (take n piece) → new.taken ≡ mid.taken + n → new.failures ≡ mid.failures + 0 → count ≤ most_proof_bytes → IsAtEnd new.left
      → (result : Result X RunFault) → IfOk result (λ x. (begun : S) (given : List ℕ) → holds begun given → accepts begun given x)
      → IfErr result (λ e. (begun : S) (given : List ℕ) (left : Option (List ℕ)) → holds begun given → IsAtEnd left → IsFaultFor (refuses begun given left) e)
      → ReadsBytes (accepts begun) (refuses begun) old new result
  ended n piece empty bytes taken failures few end (Ok x) accepted refused =
      let source = none_given old mid new before.given count before.source n piece empty bytes taken failures in
      let counted = source.counted in
      (before.given, source.gave, (accepted begun before.given before.read, end, omega (arith, counted, few)))
  ended n piece empty bytes taken failures few end (Err e) accepted refused =
      fault_told (accepts begun) (refuses begun) old new before.given count (none_given old mid new before.given count before.source n piece empty bytes taken failures) (omega (arith, few)) e
      (refused begun before.given new.left before.read end)

-- what holds of a fault holds of a refusal with it
pub of_refusal : {X : Type 0} (why : RunFault → Type 0) (e : RunFault) (result : Result X RunFault) → IsRefusal e result → why e → IfErr result why
of_refusal why e (Ok x) is holds = absurd (let ended = is.0 in let bad : ⊥ = cc in bad)
of_refusal why e (Err found) is holds = subst why (sym is.1) holds

-- ---- what is answered

-- what holds of a refusal holds of an answer of the code that is refused so
pub refused_so : {A : Type 0} (holds : Result (Unit {0} × List ℕ) RunFault → Type 0) (e : RunFault) (result : Result (Unit {0} × Vec ℕ A) RunFault) → IsRefusal e result → holds (Err e) → holds (answered result)
refused_so holds e (Ok x) is of = absurd (let ended = is.0 in let bad : ⊥ = cc in bad)
refused_so holds e (Err found) is of = subst (λ fault. holds (Err fault)) (sym is.1) of

module _ (accepts : List ℕ → Type 0) (holds : Unit {0} × List ℕ → Type 0) (refuses : List ℕ → Option (List ℕ) → RunFault → Type 0) (old new : Reading) where
  -- whatever is to hold of what is answered, if the proof is accepted
  abbrev Answered : Result (Unit {0} × List ℕ) RunFault → Type 0
  Answered result = ReadsBytes (λ given answer. holds answer × accepts given) refuses old new result

  still : (given : List ℕ) (e : RunFault) → IsOfBytes {X = Unit {0}} (λ given done. accepts given) refuses given new.left (Err e)
      → IsOfBytes (λ given answer. holds answer × accepts given) refuses given new.left (Err e)
  still given run.TooLong is = is
  still given run.OutOfMemory is = is
  still given run.Read is = is
  still given e is = is

  -- the proof was refused
  pub refused : (e : RunFault) → ReadsBytes {X = Unit {0}} (λ given done. accepts given) refuses old new (Err e) → Answered (Err e)
  refused e (given, gave, is) = (given, gave, still given e is)

  -- memory ran out behind it
  pub untold : ReadsBytes {X = Unit {0}} (λ given done. accepts given) refuses old new (Ok tt) → Answered (Err run.OutOfMemory)
  untold (given, gave, (is, end, few)) = (given, gave, omega (arith, few))

  -- the proof was accepted, and this is told
  pub told : (text : List ℕ) → ReadsBytes {X = Unit {0}} (λ given done. accepts given) refuses old new (Ok tt) → ((given : List ℕ) → accepts given → holds (tt, text)) → Answered (Ok (tt, text))
  told text (given, gave, (is, end, few)) true_of = (given, gave, ((true_of given is, is), end, few))
