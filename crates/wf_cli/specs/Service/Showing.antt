-- What is done about words that make no job.
use Rattle.std.specs.Prelude.{◌≡◌, ◌≢◌, ◌⊎◌, ℕ, Bool, List, Option, Some, None, Result, Ok, Err}
use Rattle.clap.specs.Words.{kind_of}
use Rattle.clap.specs.declared.error.Error.{Error}
use Rattle.clap.specs.declared.error.ErrorKind.TheVariants as kind
use Rattle.wf_base.specs.Streams.Seen.{Writing}
use Rattle.wf_run.specs.declared.fault.RunFault.{RunFault}
use Rattle.wf_run.specs.declared.fault.RunFault.TheVariants as run
use Rattle.wf_run.specs.Run.{Ran}
use Rattle.wf_cli.specs.declared.words.fault.WordsFault.{WordsFault}
use Rattle.wf_cli.specs.declared.words.fault.WordsFault.TheVariants as fault
use Rattle.wf_cli.specs.Service.VersionText.{version_line}
use Rattle.wf_cli.specs.Service.Refusals.{as_refusal}
use Rattle.wf_cli.specs.declared.service.refusal.Program.{Program}
use Rattle.wf_cli.specs.declared.service.refusal.Refusal.{Refusal}
use Rattle.wf_cli.specs.declared.service.refusal.Refusal.TheVariants.{Run, Words, Clap}

-- the words ask neither for help nor for the version
abbrev pub IsMistake : Error → Type 0
IsMistake e = (kind_of e ≢ kind.DisplayHelp) × (kind_of e ≢ kind.DisplayVersion)

-- the text that is shown, where it is known
abbrev pub IsShown : Option (List ℕ) → Result (Unit {0} × List ℕ) RunFault → Type 0
IsShown (Some text) (Ok answer) = answer.1 ≡ text
IsShown None (Ok answer) = Unit {0}
IsShown text (Err e) = e ≡ run.OutOfMemory

-- a text was written, or memory ran out
abbrev pub Shows : Option (List ℕ) → Writing → Writing → Result (Unit {0}) Refusal → Type 0
Shows text sink sink' done =
    (result : Result (Unit {0}) RunFault) × Ran (IsShown text) sink sink' result × (done ≡ as_refusal result)

-- the words ask for help, which is any text, or for the version; or they are refused
abbrev pub ShowsOrRefuses : Program → Error → Bool → Writing → Writing → Result (Unit {0}) Refusal → Type 0
ShowsOrRefuses program e negative sink sink' done =
    ((kind_of e ≡ kind.DisplayHelp) × Shows None sink sink' done)
    ⊎ ((kind_of e ≡ kind.DisplayVersion) × Shows (Some (version_line program.name.now)) sink sink' done)
    ⊎ (IsMistake e × (done ≡ Err (Clap e negative program)) × (sink' ≡ sink))

-- the words ask for a text, or they are refused, or memory ran out
abbrev pub Declines : Program → WordsFault → Writing → Writing → Result (Unit {0}) Refusal → Type 0
Declines program (fault.Clap e negative) sink sink' done = ShowsOrRefuses program e negative sink sink' done
Declines program (fault.Words mistake) sink sink' done = (done ≡ Err (Words mistake)) × (sink' ≡ sink)
Declines program fault.OutOfMemory sink sink' done = (done ≡ Err (Run run.OutOfMemory)) × (sink' ≡ sink)

-- a program of this name declined the words
abbrev pub DeclinesAs : List ℕ → WordsFault → Writing → Writing → Result (Unit {0}) Refusal → Type 0
DeclinesAs name e sink sink' done = (program : Program) × (program.name.now ≡ name) × Declines program e sink sink' done
