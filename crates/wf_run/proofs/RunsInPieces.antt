-- Runs that write their text in pieces, and those that read another source about a task.
use Rattle.std.proofs.Common.{◌≡◌, ℕ, List, Result, Ok, Err, IsErr, IsErrAnd, Vec, refl, ap, subst}
use Rattle.wf_model.specs.Task.{Task}
use Rattle.wf_base.specs.Streams.Seen.{Reading, Writing}
use Rattle.wf_base.specs.Streams.Texts.{WritesText}
use Rattle.wf_base.specs.declared.streams.sink.WriteFault.{WriteFault}
use Rattle.wf_complex.specs.Protocol.{Built, Builds}
use Rattle.wf_complex.specs.declared.fault.BuildFault.{BuildFault}
use Rattle.wf_complex.specs.declared.fault.BuildFault.TheVariants as build
use Rattle.wf_run.specs.Faults.{of_build}
use Rattle.wf_run.specs.declared.fault.RunFault.{RunFault}
use Rattle.wf_run.specs.declared.fault.RunFault.TheVariants.{Write}
use Rattle.wf_run.specs.Run.{Answers, HasComplex, IsBeyondLimits, Ran, answered}
use Rattle.wf_run.specs.Sources.{AsksWithin, ReadsAbout}
use Rattle.wf_run.specs.Texts.{IsTextOf}

-- a complex that is refused is beyond the limits
pub beyond_build : (t : Task) (r : ℕ) (e : BuildFault) → Builds t r (Err e) → IsBeyondLimits t r (of_build e)
beyond_build t r build.Rounds refused = refused
beyond_build t r build.TooManyExecutions refused = refused
beyond_build t r build.OutOfMemory refused = tt

-- a refusal that was made to another
abbrev pub IsRefusal : {X : Type 0} → RunFault → Result X RunFault → Type 0
IsRefusal e result = IsErr result × IsErrAnd result (λ found. found ≡ e)

module _ (reads : ReadsAbout) (t : Task) (r : ℕ) where
  -- the complex is refused, and the other source left alone
  pub unasked : {A : Type 0} (old : Reading) (e : BuildFault) (result : Result (Unit {0} × Vec ℕ A) RunFault) → Builds t r (Err e) → IsRefusal (of_build e) result → AsksWithin reads r t old old (answered result)
  unasked old e (Ok x) refused is = absurd (let ended = is.0 in let bad : ⊥ = cc in bad)
  unasked old e (Err found) refused is = (Err (of_build e), beyond_build t r e refused, (ap Err is.1, refl))

  -- the other source is read about the complex of its own rounds
  pub asked : (b : Built) → Builds t r (Ok b) → (old new : Reading) (result : Result (Unit {0} × List ℕ) RunFault) → reads t b.rounds old new result → AsksWithin reads r t old new result
  asked b built old new result read = (Ok b, built, subst (λ n. reads t n old new result) built.2.rounds_are read)

module _ (text_of : Task → ℕ → List ℕ) (t : Task) (r : ℕ) (old new : Writing) where
  -- before anything was written
  pub refused : (e : RunFault) (result : Result (Unit {0}) RunFault) → IsBeyondLimits t r e → IsRefusal e result → Ran (Answers (IsTextOf text_of) t r) old old result
  refused e (Ok done) beyond is = absurd (let ended = is.0 in let bad : ⊥ = cc in bad)
  refused e (Err found) beyond is = (Err e, beyond, (ap Err is.1, refl))

  -- after a beginning was
  pub broken : (text : List ℕ) (fault : WriteFault) (result : Result (Unit {0}) RunFault) → HasComplex t r → text ≡ text_of t r → WritesText old new text (Err fault) → IsRefusal Write result
      → Ran (Answers (IsTextOf text_of) t r) old new result
  broken text fault (Ok done) has same begun is = absurd (let ended = is.0 in let bad : ⊥ = cc in bad)
  broken text fault (Err found) has same begun is = (Ok (tt, text), (has, same), (is.1, begun))

  pub written : (text : List ℕ) → HasComplex t r → text ≡ text_of t r → WritesText old new text (Ok tt) → Ran (Answers (IsTextOf text_of) t r) old new (Ok tt)
  written text has same wrote = (Ok (tt, text), (has, same), (refl, wrote))
