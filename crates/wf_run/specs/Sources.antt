-- A run over two sources, a task's and another one, which is read about the
-- task after so many rounds.
use Rattle.std.specs.Prelude.{◌≡◌, ℕ, List, Result, Ok, Err}
use Rattle.wf_model.specs.Task.{Task}
use Rattle.wf_base.specs.Streams.Seen.{Reading, Writing}
use Rattle.wf_base.specs.Streams.Ends.{CanCount, CanRead}
use Rattle.wf_complex.specs.Protocol.{Built, Builds}
use Rattle.wf_run.specs.Run.{IsBeyondLimits, IsTaskOf, Reads}
use Rattle.wf_run.specs.declared.fault.RunFault.{RunFault}

-- what is read of the other source about a task after r rounds, and the text that is made of it
abbrev pub ReadsAbout : Type 1
ReadsAbout = Task → ℕ → Reading → Reading → Result (Unit {0} × List ℕ) RunFault → Type 0

-- the next step, which reads a source; after a refusal it is left alone
abbrev pub NextReads : {X Y : Type 0} → (X → Reading → Reading → Result Y RunFault → Type 0) → Reading → Reading → Result X RunFault
    → Result Y RunFault → Type 0
NextReads step old new (Ok x) result = step x old new result
NextReads step old new (Err e) result = (result ≡ Err e) × (new ≡ old)

-- the protocol complex of a task after r rounds, or why there is none
abbrev pub IsComplexOf : Task → ℕ → Result Built RunFault → Type 0
IsComplexOf t r (Ok b) = Builds t r (Ok b)
IsComplexOf t r (Err e) = IsBeyondLimits t r e

-- the limits are judged before the other source is read
abbrev pub AsksWithin : ReadsAbout → ℕ → Task → Reading → Reading → Result (Unit {0} × List ℕ) RunFault → Type 0
AsksWithin reads r t old new result =
    (built : Result Built RunFault) × IsComplexOf t r built × NextReads (λ b. reads t r) old new built result

-- the task is read, and then the other source about the task; if there is no task, the other source
-- is left alone
abbrev pub AsksPair : {X : Type 0} → (Task → Reading → Reading → Result (X × List ℕ) RunFault → Type 0) → Reading → Reading → Reading
    → Reading → Result (X × List ℕ) RunFault → Type 0
AsksPair asks task task' other other' result =
    (t : Result Task RunFault) × Reads IsTaskOf task task' t × NextReads asks other other' t result

-- the limits are judged between the two
abbrev pub AsksBoth : ReadsAbout → ℕ → Reading → Reading → Reading → Reading → Result (Unit {0} × List ℕ) RunFault → Type 0
AsksBoth reads r task task' other other' result = AsksPair (AsksWithin reads r) task task' other other' result

-- all three ends can count what a run asks of them
abbrev pub CanReadBoth : Reading → Reading → Writing → Type 0
CanReadBoth task other sink = CanRead task × CanCount other sink
