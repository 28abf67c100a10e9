-- Why a program refuses: its exit status, and what it tells.
use Rattle.std.specs.Prelude.{◌≡◌, ℕ, List, [], ◌∷◌, ◌++◌, Option, Some, None, Result, Ok, Err, codes}
use Rattle.wf_base.specs.Streams.Seen.{Writing}
use Rattle.wf_base.specs.Streams.Texts.{Tells}
use Rattle.wf_run.specs.declared.fault.RunFault.{RunFault}
use Rattle.wf_run.specs.declared.fault.RunFault.TheVariants as run
use Rattle.wf_run.specs.Faults.{fault_text}
use Rattle.wf_cli.specs.declared.service.files.FileState.{FileState}
use Rattle.wf_cli.specs.Words.Mistakes.{mistake_line}
use Rattle.wf_cli.specs.Service.Notes.{file_note, note_line, note_of}
use Rattle.wf_cli.specs.declared.service.refusal.Refusal.{Refusal}
use Rattle.wf_cli.specs.declared.service.refusal.Refusal.TheVariants.{Run, RunWithFile, Words, Clap}

-- the exit status of a refused run
abbrev pub fault_status : RunFault → ℕ
fault_status run.OutOfMemory = 3
fault_status run.Read = 4
fault_status run.Write = 4
fault_status e = 2

abbrev pub refusal_status : Refusal → ℕ
refusal_status (Run e) = fault_status e
refusal_status (RunWithFile e file) = fault_status e
refusal_status (Words mistake) = 2
refusal_status (Clap e negative program) = 2

-- the line in which a program tells a refusal's number and name, with what it carries
abbrev pub refusal_line : List ℕ → List ℕ → List ℕ
refusal_line program name = program ++ (codes ": " ++ (name ++ 10 ∷ []))

-- what a program tells of a refusal, where it is known
abbrev pub refusal_text : List ℕ → Refusal → Option (List ℕ)
refusal_text program (Run e) = Some (refusal_line program (fault_text e) ++ note_line (note_of e))
refusal_text program (RunWithFile e file) =
    Some (refusal_line program (fault_text e) ++ (note_line (file_note e file) ++ note_line (note_of e)))
refusal_text program (Words mistake) = Some (refusal_line program (codes "32 Words") ++ mistake_line mistake)
refusal_text program (Clap e negative parser) = None

-- a refusal is told by the program of this name, and this is its exit status
abbrev pub Refuses : List ℕ → Writing → Writing → Refusal → ℕ → Type 0
Refuses program errors errors' e status = (status ≡ refusal_status e) × Tells errors errors' (refusal_text program e)

-- a run that is refused is a refusal
abbrev pub as_refusal : {X : Type 0} → Result X RunFault → Result X Refusal
as_refusal (Ok x) = Ok x
as_refusal (Err e) = Err (Run e)

-- a run that reads two texts and is refused is a refusal, with how it went with the file
abbrev pub as_file_refusal : {X : Type 0} → FileState → Result X RunFault → Result X Refusal
as_file_refusal file (Ok x) = Ok x
as_file_refusal file (Err e) = Err (RunWithFile e file)
