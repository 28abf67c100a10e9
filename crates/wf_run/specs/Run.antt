-- A run, step by step. A step refuses, and then the run is refused so; or it
-- hands on what the next step needs.
use Rattle.std.specs.Prelude.{◌≡◌, ℕ, List, Result, Ok, Err, Vec}
use Rattle.wf_model.specs.Limits.{most_bytes}
use Rattle.wf_model.specs.Task.{Task}
use Rattle.wf_base.specs.Streams.Seen.{Reading, Writing}
use Rattle.wf_base.specs.Streams.Texts.{ReadsText, Wrote, TookBeginning}
use Rattle.wf_base.specs.declared.streams.source.ReadFault.{ReadFault}
use Rattle.wf_task.specs.Judge.{task_of_text}
use Rattle.wf_task_parse.specs.declared.fault.TaskFault.{TaskFault}
use Rattle.wf_complex.specs.Protocol.{Built, Builds}
use Rattle.wf_complex.specs.declared.fault.BuildFault.TheVariants as build
use Rattle.wf_run.specs.Faults.{of_read, of_task}
use Rattle.wf_run.specs.declared.fault.RunFault.{RunFault}
use Rattle.wf_run.specs.declared.fault.RunFault.TheVariants.{Build, OutOfMemory, Read, Write}

-- the next step, after one that gave something or was refused
abbrev pub Next : {X Y : Type 0} → (X → Result Y RunFault → Type 0) → Result X RunFault → Result Y RunFault → Type 0
Next step (Ok x) result = step x result
Next step (Err e) result = result ≡ Err e

-- how many reads, and how many writes, failed by a refusal
abbrev pub failed_reads : RunFault → ℕ
failed_reads Read = 1
failed_reads e = 0

abbrev pub failed_writes : RunFault → ℕ
failed_writes Write = 1
failed_writes e = 0

-- how many of something there were by a result
abbrev pub by_result : {X : Type 0} → (RunFault → ℕ) → Result X RunFault → ℕ
by_result count (Ok x) = 0
by_result count (Err e) = count e

-- ---- from a source to an answer

-- what the judge of texts says of what was read
abbrev pub Judged : {X : Type 0} → (List ℕ → Result X RunFault → Type 0) → Result (List ℕ) ReadFault → Result X RunFault → Type 0
Judged judge (Ok text) result = judge text result
Judged judge (Err e) result = result ≡ Err (of_read e)

-- what the judge says of the source's text
abbrev pub Reads : {X : Type 0} → (List ℕ → Result X RunFault → Type 0) → Reading → Reading → Result X RunFault → Type 0
Reads judge old new result =
    (text : Result (List ℕ) ReadFault) × ReadsText most_bytes old new text × Judged judge text result

-- the task of a text, or why it is none
abbrev pub IsTaskOf : List ℕ → Result Task RunFault → Type 0
IsTaskOf text (Ok t) = task_of_text text ≡ Ok t
IsTaskOf text (Err OutOfMemory) = Unit {0}
IsTaskOf text (Err e) = (fault : TaskFault) × (task_of_text text ≡ Err fault) × (e ≡ of_task fault)

-- there is a protocol complex: the rounds are few enough, and so are the executions
abbrev pub HasComplex : Task → ℕ → Type 0
HasComplex t r = (b : Built) × Builds t r (Ok b)

-- why a task has no answer for r rounds
abbrev pub IsBeyondLimits : Task → ℕ → RunFault → Type 0
IsBeyondLimits t r (Build build.Rounds) = Builds t r (Err build.Rounds)
IsBeyondLimits t r (Build build.TooManyExecutions) = Builds t r (Err build.TooManyExecutions)
IsBeyondLimits t r OutOfMemory = Unit {0}
IsBeyondLimits t r e = ⊥

-- the answer for a task and r rounds with its text, where is_text says which text an answer has
abbrev pub Answers : {X : Type 0} → (Task → ℕ → X → List ℕ → Type 0) → Task → ℕ → Result (X × List ℕ) RunFault → Type 0
Answers is_text t r (Ok answer) = HasComplex t r × is_text t r answer.0 answer.1
Answers is_text t r (Err e) = IsBeyondLimits t r e

-- what is answered about the source's task
abbrev pub AsksOfTask : {X : Type 0} → (Task → Result (X × List ℕ) RunFault → Type 0) → Reading → Reading
    → Result (X × List ℕ) RunFault → Type 0
AsksOfTask answers old new result =
    (task : Result Task RunFault) × Reads IsTaskOf old new task × Next answers task result

-- the answer for the source's task and r rounds
abbrev pub Asks : {X : Type 0} → (Task → ℕ → X → List ℕ → Type 0) → ℕ → Reading → Reading → Result (X × List ℕ) RunFault → Type 0
Asks is_text r old new result = AsksOfTask (λ t. Answers is_text t r) old new result

-- ---- from an answer to a sink

-- An answer's text was written whole; or a call of the writer failed, and a beginning of the text
-- was written; or there is none, and the sink is as it was.
abbrev pub Hands : {X : Type 0} → Writing → Writing → Result (X × List ℕ) RunFault → Result X RunFault → Type 0
Hands old new (Ok answer) (Ok x) = (x ≡ answer.0) × Wrote old new answer.1
Hands old new (Ok answer) (Err e) = (e ≡ Write) × TookBeginning old new answer.1
Hands old new (Err e) result = (result ≡ Err e) × (new ≡ old)

-- ---- a whole run

-- something was asked, and the answer was handed to the sink
abbrev pub Ran : {X : Type 0} → (Result (X × List ℕ) RunFault → Type 0) → Writing → Writing → Result X RunFault → Type 0
Ran {X = X} asks old new result =
    (answer : Result (X × List ℕ) RunFault) × asks answer × Hands old new answer result

-- an answer of the code, and what clauses see of it
abbrev pub answered : {X A : Type 0} → Result (X × Vec ℕ A) RunFault → Result (X × List ℕ) RunFault
answered (Ok answer) = Ok (answer.0, answer.1.items)
answered (Err e) = Err e
