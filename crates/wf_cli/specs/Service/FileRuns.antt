-- A run with the task in a file, and with what a source gives about it.
use Rattle.std.specs.Prelude.{◌≡◌, ◌⊎◌, ℕ, List, Option, Some, None, Result, Ok, Err}
use Rattle.wf_base.specs.Streams.Seen.{Reading, Writing}
use Rattle.wf_run.specs.declared.fault.RunFault.{RunFault}
use Rattle.wf_run.specs.declared.fault.RunFault.TheVariants.{Read}
use Rattle.wf_cli.specs.Service.Files.{Filing, Opening, after_asking, opened, refused, unread}

-- what is done with the task of one source and what another gives, and the text that is written
abbrev pub DoesBoth : Type 0 → Type 1
DoesBoth X = Reading → Reading → Reading → Reading → Writing → Writing → Result X RunFault → Type 0

-- that something was answered, whatever it is, or why not
abbrev pub without_answer : {X : Type 0} → Result X RunFault → Result (Unit {0}) RunFault
without_answer (Ok x) = Ok tt
without_answer (Err e) = Err e

-- it was done, whatever was answered
abbrev pub Did : {X : Type 0} → DoesBoth X → DoesBoth (Unit {0})
Did {X = X} does task task' source source' sink sink' result =
    (answer : Result X RunFault) × does task task' source source' sink sink' answer × (result ≡ without_answer answer)

-- One file was asked for and opened, this was done with its task and the
-- source's text, and the file's source is kept as it was left. Or it can't be
-- opened, which is a failed read, and nothing was read or written.
abbrev pub WithFile : {F : Type 0} → (Opening → Type 0) → DoesBoth (Unit {0}) → Filing F → Filing F → Reading → Reading → Writing
    → Writing → Result (Unit {0}) RunFault → Type 0
WithFile comes does opener opener' source source' sink sink' result =
    ((left : Option (List ℕ)) × (file' : Reading) × comes (opened left) × (opener' ≡ after_asking opener 0 (Some file'))
    × does (unread left) file' source source' sink sink' result)
    ⊎ (comes refused × (opener' ≡ after_asking opener 1 None) × (result ≡ Err Read) × (source' ≡ source) × (sink' ≡ sink))
