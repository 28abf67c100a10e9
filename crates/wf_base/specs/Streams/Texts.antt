-- Whole texts, read from a source and written to a sink.
use Rattle.std.specs.Prelude.{ℕ, true, ◌≡◌, ◌+◌, ◌≤◌, ◌⊎◌, List, ◌++◌, length, take, Option, Some, None, Result, Ok, Err}
use Rattle.std.specs.Io.KnownBytes.{Appends, Consumes, IsAtEnd}
use Rattle.std.specs.declared.vec.Vec.{Vec}
use Rattle.wf_base.specs.Streams.Seen.{Reading, Writing}
use Rattle.wf_base.specs.declared.streams.source.ReadFault.{ReadFault}
use Rattle.wf_base.specs.declared.streams.source.ReadFault.TheVariants.{TooLong, OutOfMemory, Read}
use Rattle.wf_base.specs.declared.streams.sink.WriteFault.{WriteFault}

-- the source gave these bytes, and this many of its calls failed
pub record Gave (old new : Reading) (bytes : List ℕ) (failed : ℕ) : Type 0 where
  pub bytes_are : Consumes old.left new.left bytes
  pub taken : new.taken ≡ old.taken + length bytes
  pub failures : new.failures ≡ old.failures + failed

-- the source gave these bytes, and none of its calls failed
abbrev pub GaveAll : Reading → Reading → List ℕ → Type 0
GaveAll old new bytes = Gave old new bytes 0

-- the sink took these bytes, and this many of its calls failed
pub record Took (old new : Writing) (bytes : List ℕ) (failed : ℕ) : Type 0 where
  pub bytes_are : Appends old.held new.held bytes
  pub failures : new.failures ≡ old.failures + failed

-- the sink took the whole text, no call of it failed, and it was flushed after the last byte
pub record Wrote (old new : Writing) (text : List ℕ) : Type 0 where
  pub took : Took old new text 0
  pub flushed : new.flushed ≡ true

abbrev pub bytes_of : {A E : Type 0} → Result (Vec ℕ A) E → Result (List ℕ) E
bytes_of (Ok text) = Ok text.items
bytes_of (Err e) = Err e

-- how many calls failed, by the result of a reading
abbrev pub failed_reads : Result (List ℕ) ReadFault → ℕ
failed_reads (Err Read) = 1
failed_reads result = 0

-- What is made of the bytes that a source gave, where a text may have `most` bytes: all of them are
-- the text where the source is at its end, and they are too many where there is one more.
abbrev pub IsText : ℕ → List ℕ → Option (List ℕ) → Result (List ℕ) ReadFault → Type 0
IsText most given left (Ok text) = (text ≡ given) × (length given ≤ most) × IsAtEnd left
IsText most given left (Err TooLong) = length given ≡ most + 1
IsText most given left (Err OutOfMemory) = length given ≤ most + 1
IsText most given left (Err Read) = length given ≤ most

-- the text of a source, or why there is none
abbrev pub ReadsText : ℕ → Reading → Reading → Result (List ℕ) ReadFault → Type 0
ReadsText most old new result =
    (given : List ℕ) × Gave old new given (failed_reads result) × IsText most given new.left result

-- a call of the sink failed, and it took a beginning of the text
abbrev pub TookBeginning : Writing → Writing → List ℕ → Type 0
TookBeginning old new text = (n : ℕ) × (n ≤ length text) × Took old new (take n text) 1

-- the sink took the text, or a beginning of it
abbrev pub SendsText : Writing → Writing → List ℕ → Result (Unit {0}) WriteFault → Type 0
SendsText old new text (Ok done) = Took old new text 0
SendsText old new text (Err fault) = TookBeginning old new text

-- the sink took the text and was flushed, or it took a beginning of the text
abbrev pub WritesText : Writing → Writing → List ℕ → Result (Unit {0}) WriteFault → Type 0
WritesText old new text (Ok done) = Wrote old new text
WritesText old new text (Err fault) = TookBeginning old new text

-- A text was put on a page that is passed on to the sink. What the sink took and what the page
-- holds now are, together, what the page held before and the text; or a call of the sink failed,
-- and it took a beginning of these.
abbrev pub PutsText : Writing → List ℕ → Writing → List ℕ → List ℕ → Result (Unit {0}) WriteFault → Type 0
PutsText old page new page' text (Ok done) = (taken : List ℕ) × Took old new taken 0 × (taken ++ page' ≡ page ++ text)
PutsText old page new page' text (Err fault) = TookBeginning old new (page ++ text)

-- the sink took the text, or a call of it failed
abbrev pub Told : Writing → Writing → List ℕ → Type 0
Told old new text = Took old new text 0 ⊎ (new.failures ≡ old.failures + 1)

-- a text was told; or it is one that is not known, and a call failed at most
abbrev pub Tells : Writing → Writing → Option (List ℕ) → Type 0
Tells old new (Some text) = Told old new text
Tells old new None = new.failures ≤ old.failures + 1
