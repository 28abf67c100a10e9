-- A window on the text that a source gives, and what stands at its front.
use Rattle.std.specs.Prelude.{◌≡◌, ◌<◌, ◌≤◌, ◌+◌, ◌-◌, ◌^◌, ◌⊎◌, ℕ, Bool, true, false, List, [], ◌∷◌, ◌++◌, length, take, drop, MatchResult, OnOk, Result, Ok, Err}
use Rattle.std.specs.Io.KnownBytes.{IsAtEnd}
use Rattle.wf_base.specs.Streams.Seen.{Reading}
use Rattle.wf_base.specs.Streams.Texts.{Gave}
use Rattle.wf_base.specs.declared.streams.source.ReadFault.{ReadFault}
use Rattle.wf_base.specs.declared.streams.source.ReadFault.TheVariants.{TooLong, OutOfMemory, Read}
use Rattle.wf_report.specs.Reading.{lacks}
use Rattle.wf_report.specs.declared.fault.CertFault.TheVariants as amiss
use Rattle.wf_report.specs.Limits.{most_report_bytes, most_report_lines}
use Rattle.wf_report.specs.declared.halt.ReadStop.{ReadStop}
use Rattle.wf_report.specs.declared.halt.ReadStop.TheVariants.{BadReport, SourceFailed}
use Rattle.wf_report.specs.declared.window.AtFront.{AtFront}
use Rattle.wf_report.specs.declared.window.AtFront.TheVariants.{Line, Bad, End}

-- the most bytes of a line of a report, without its line feed
abbrev pub longest_line : ℕ
longest_line = 21

-- What clauses see of a window: the bytes that were given and not passed yet, how many were given
-- and how many the text may have, the number of the line at the front, and whether the end of the
-- source was met.
pub record Ahead : Type 0 where
  pub pending : List ℕ
  pub given : ℕ
  pub most : ℕ
  pub number : ℕ
  pub ended : Bool

-- nothing was read of a text that may have so many bytes
abbrev pub untouched : ℕ → Ahead
untouched most = record { pending = []; given = 0; most = most; number = 1; ended = false }

-- the text may have so many bytes
abbrev pub with_most : ℕ → Ahead → Ahead
with_most most w = record { pending = w.pending; given = w.given; most = most; number = w.number; ended = w.ended }

-- the line of so many bytes at the front is passed
abbrev pub passed : ℕ → Ahead → Ahead
passed size w = record { pending = drop (size + 1) w.pending; given = w.given; most = w.most; number = w.number + 1; ended = w.ended }

-- all bytes are passed
abbrev pub without_pending : Ahead → Ahead
without_pending w = record { pending = []; given = w.given; most = w.most; number = w.number; ended = w.ended }

-- the bytes from the first to the past one are within the room
pub record IsWindow (room : List ℕ) (first past : ℕ) : Type 0 where
  pub long : length room ≡ 65536
  pub ordered : first ≤ past
  pub within : past ≤ 65536

-- ---- what a source gives

-- the source can give the rest of a text
pub record CanGive (source : Reading) (w : Ahead) : Type 0 where
  pub failures : source.failures < 2 ^ 64 - 1
  pub taken : source.taken < 2 ^ 63 + w.given
  pub bounded : w.most ≤ most_report_bytes
  pub few : w.given ≤ w.most + 1
  pub end : w.ended ≡ true → IsAtEnd source.left × (w.given ≤ w.most)

-- the source gave these bytes, and so many calls failed; at its end it is left alone
pub record Gives (old new : Reading) (w w' : Ahead) (bytes : List ℕ) (failed : ℕ) : Type 0 where
  pub gave : Gave old new bytes failed
  pub given : w'.given ≡ w.given + length bytes
  pub most : w'.most ≡ w.most
  pub still : w.ended ≡ true → (bytes ≡ []) × (w'.ended ≡ true)
  pub few : w.given ≤ w.most + 1 → w'.given ≤ w'.most + 1
  pub end : (w.ended ≡ true → IsAtEnd old.left × (w.given ≤ w.most)) → w'.ended ≡ true → IsAtEnd new.left × (w'.given ≤ w'.most)

-- how many calls failed, by why a text is not read on
abbrev pub failed_by : ReadFault → ℕ
failed_by TooLong = 0
failed_by OutOfMemory = 0
failed_by Read = 1

abbrev pub failed_reads : {X : Type 0} → Result X ReadFault → ℕ
failed_reads (Ok x) = 0
failed_reads (Err e) = failed_by e

abbrev pub failed_calls : {X : Type 0} → Result X ReadStop → ℕ
failed_calls (Ok x) = 0
failed_calls (Err (BadReport e)) = 0
failed_calls (Err (SourceFailed e)) = failed_by e

-- how many bytes were given, where a text is not read to its end
abbrev pub IsCutOff : ReadFault → Ahead → Type 0
IsCutOff TooLong w = w.given ≡ w.most + 1
IsCutOff OutOfMemory w = w.given ≤ w.most + 1
IsCutOff Read w = w.given ≤ w.most

-- one call for at most so many bytes behind the first ones of a room, which is this then
abbrev pub ReadsBehind : {E : Type 0} → Reading → Reading → ℕ → ℕ → List ℕ → Result ℕ E → Type 0
ReadsBehind old new kept size room result = MatchResult result (λ n. (n ≤ size) × Gave old new (take n (drop kept room)) 0 × (n ≡ 0 → 0 < size → IsAtEnd new.left)) (λ _. Gave old new [] 1)

-- a piece was read, or the end was met; or no byte was
abbrev pub IsFilled : Ahead → Ahead → List ℕ → Result (Unit {0}) ReadFault → Type 0
IsFilled w w' bytes (Ok done) =
    (w'.pending ≡ w.pending ++ bytes) × (w'.number ≡ w.number)
    × (((bytes ≡ []) × (w'.ended ≡ true)) ⊎ ((0 < length bytes) × (w'.ended ≡ false)))
IsFilled w w' bytes (Err e) = IsCutOff e w' × (bytes ≡ [])

abbrev pub Fills : Reading → Reading → Ahead → Ahead → Result (Unit {0}) ReadFault → Type 0
Fills old new w w' result = (bytes : List ℕ) × Gives old new w w' bytes (failed_reads result) × IsFilled w w' bytes result

-- the text was read to its end
abbrev pub IsDrained : Ahead → Result (Unit {0}) ReadFault → Type 0
IsDrained w' (Ok done) = w'.ended ≡ true
IsDrained w' (Err e) = IsCutOff e w'

abbrev pub Drains : Reading → Reading → Ahead → Ahead → Result (Unit {0}) ReadFault → Type 0
Drains old new w w' result =
    (bytes : List ℕ) × Gives old new w w' bytes (failed_reads result) × IsDrained w' result × OnOk result (CanGive new w')

-- all bytes of the window, and all that follow, are the text
abbrev pub IsCollected : Ahead → Ahead → List ℕ → Result (List ℕ) ReadFault → Type 0
IsCollected w w' bytes (Ok text) = (text ≡ w.pending ++ bytes) × (w'.ended ≡ true)
IsCollected w w' bytes (Err e) = IsCutOff e w'

abbrev pub Collects : Reading → Reading → Ahead → Ahead → Result (List ℕ) ReadFault → Type 0
Collects old new w w' result =
    (bytes : List ℕ) × Gives old new w w' bytes (failed_reads result) × IsCollected w w' bytes result × OnOk result (CanGive new w')

-- ---- what stands at the front

-- a line of so many bytes, without its line feed
pub record IsCutAt (size : ℕ) (w : Ahead) : Type 0 where
  pub cut : w.pending ≡ take size w.pending ++ 10 ∷ drop (size + 1) w.pending
  pub whole : lacks 10 (take size w.pending) ≡ true
  pub inside : size < length w.pending

-- the same, if its number is one that a line may have
pub record IsLineAt (size : ℕ) (w : Ahead) : Type 0 where
  pub line : IsCutAt size w
  pub numbered : w.number ≤ most_report_lines

-- no line feed is there yet, and there may come one
pub record IsShort (w : Ahead) : Type 0 where
  pub few : length w.pending ≤ longest_line
  pub going : w.ended ≡ false

-- the beginning of a line that is too long
abbrev pub IsTooLong : Ahead → Type 0
IsTooLong w = (longest_line < length w.pending) × (lacks 10 (take (longest_line + 1) w.pending) ≡ true)

-- a last line without line feed
abbrev pub IsUnended : Ahead → Type 0
IsUnended w = (w.ended ≡ true) × (lacks 10 w.pending ≡ true) × (0 < length w.pending)

abbrev pub IsFront : AtFront → Ahead → Type 0
IsFront (Line size) w = IsCutAt size w
IsFront Bad w = IsTooLong w ⊎ IsUnended w
IsFront End w = (w.ended ≡ true) × (w.pending ≡ [])

-- a line may have its number
abbrev pub IsNumbered : AtFront → Ahead → Type 0
IsNumbered (Line size) w = w.number ≤ most_report_lines
IsNumbered Bad w = Unit {0}
IsNumbered End w = Unit {0}

-- the text is not read on, and too few bytes are there for a line
abbrev pub IsCutShort : ReadFault → Ahead → Ahead → List ℕ → Type 0
IsCutShort e w w' bytes = IsCutOff e w' × (length (w.pending ++ bytes) ≤ longest_line)

abbrev pub IsSought : Ahead → Ahead → List ℕ → Result AtFront ReadFault → Type 0
IsSought w w' bytes (Ok found) = (w'.pending ≡ w.pending ++ bytes) × (w'.number ≡ w.number) × IsFront found w'
IsSought w w' bytes (Err e) = IsCutShort e w w' bytes

abbrev pub Seeks : Reading → Reading → Ahead → Ahead → Result AtFront ReadFault → Type 0
Seeks old new w w' result = (bytes : List ℕ) × Gives old new w w' bytes (failed_reads result) × IsSought w w' bytes result

-- a line was found that is one too many
abbrev pub IsPastLimit : Ahead → Ahead → List ℕ → Type 0
IsPastLimit w w' bytes =
    (w'.pending ≡ w.pending ++ bytes) × (w'.number ≡ w.number) × (most_report_lines < w.number) × (0 < length w'.pending)

abbrev pub IsFound : Ahead → Ahead → List ℕ → Result AtFront ReadStop → Type 0
IsFound w w' bytes (Ok found) =
    (w'.pending ≡ w.pending ++ bytes) × (w'.number ≡ w.number) × IsFront found w' × IsNumbered found w'
IsFound w w' bytes (Err (BadReport amiss.TooLong)) = IsPastLimit w w' bytes
IsFound w w' bytes (Err (BadReport e)) = ⊥
IsFound w w' bytes (Err (SourceFailed e)) = IsCutShort e w w' bytes

abbrev pub Finds : Reading → Reading → Ahead → Ahead → Result AtFront ReadStop → Type 0
Finds old new w w' result = (bytes : List ℕ) × Gives old new w w' bytes (failed_calls result) × IsFound w w' bytes result
