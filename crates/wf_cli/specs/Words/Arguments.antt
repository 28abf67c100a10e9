-- What a failed reading of the words is called.
use Rattle.std.specs.Prelude.{◌≡◌, ◌≢◌, ◌⊎◌}
use Rattle.std.specs.declared.io.ErrorKind.{ErrorKind}
use Rattle.std.specs.declared.io.ErrorKind.TheVariants as kind
use Rattle.wf_cli.specs.declared.words.fault.WordsFault.{WordsFault}
use Rattle.wf_cli.specs.declared.words.fault.WordsFault.TheVariants.{Words, OutOfMemory}
use Rattle.wf_cli.specs.declared.words.mistake.UsageError.TheVariants.{NotUtf8}

-- out of memory is a fault of its own; after any other, one of the words is no text
abbrev pub IsFaultOf : ErrorKind → WordsFault → Type 0
IsFaultOf k e = ((k ≡ kind.OutOfMemory) × (e ≡ OutOfMemory)) ⊎ ((k ≢ kind.OutOfMemory) × (e ≡ Words NotUtf8))
