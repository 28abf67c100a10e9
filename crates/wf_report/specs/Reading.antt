-- What reading answers about a text, and the pieces that it is cut into.
use Rattle.std.specs.Prelude.{◌≡◌, ◌<◌, ◌≤◌, ◌==◌, ℕ, Bool, not, List, length, Result, Ok, Err}
use Rattle.std.specs.List.{list_all}
use Rattle.wf_model.specs.Limits.{most_bytes}
use Rattle.wf_model.specs.Report.{Reading, report_of}
use Rattle.wf_report.specs.Reports.{report_seen}
use Rattle.wf_report.specs.declared.report.Report.{Report}
use Rattle.wf_report.specs.declared.fault.CertFault.{CertFault}
use Rattle.wf_report.specs.declared.fault.CertFault.TheVariants.{TooLong, Syntax, Header, MapLength, Violates, NoSuch, Unsound, NotEmpty, NotOpen, Unfinished, Trailing, NotFirst, NotTheMap, OutOfMemory}

-- the byte stands nowhere in the text
abbrev pub lacks : ℕ → List ℕ → Bool
lacks byte text = list_all (λ b. not (b == byte)) text

-- this is the number of the bad line; nothing is said where memory ran out
abbrev pub IsBad : {Y : Type 0} → CertFault → Reading Y → Type 0
IsBad TooLong reading = ⊥
IsBad (Syntax k) reading = reading ≡ Err k
IsBad (Header k) reading = ⊥
IsBad MapLength reading = ⊥
IsBad (Violates e) reading = ⊥
IsBad (NoSuch k) reading = ⊥
IsBad (Unsound k) reading = ⊥
IsBad (NotEmpty k) reading = ⊥
IsBad (NotOpen k) reading = ⊥
IsBad Unfinished reading = ⊥
IsBad (Trailing k) reading = ⊥
IsBad (NotFirst k) reading = ⊥
IsBad (NotTheMap k) reading = ⊥
IsBad OutOfMemory reading = Unit {0}

-- what was read, as the definitions see it, or the number of the first bad line
abbrev pub Gives : {X Y : Type 0} → (X → Y) → Result X CertFault → Reading Y → Type 0
Gives view (Ok x) reading = reading ≡ Ok (view x)
Gives view (Err e) reading = IsBad e reading

-- a text within the limit is read as the definitions say; a longer one is too long, whatever it is
abbrev pub IsRead : Result Report CertFault → List ℕ → Type 0
IsRead (Ok r) text = (length text ≤ most_bytes) × (report_of text ≡ Ok (report_seen r))
IsRead (Err TooLong) text = most_bytes < length text
IsRead (Err (Syntax k)) text = (length text ≤ most_bytes) × (report_of text ≡ Err k)
IsRead (Err (Header k)) text = ⊥
IsRead (Err MapLength) text = ⊥
IsRead (Err (Violates e)) text = ⊥
IsRead (Err (NoSuch k)) text = ⊥
IsRead (Err (Unsound k)) text = ⊥
IsRead (Err (NotEmpty k)) text = ⊥
IsRead (Err (NotOpen k)) text = ⊥
IsRead (Err Unfinished) text = ⊥
IsRead (Err (Trailing k)) text = ⊥
IsRead (Err (NotFirst k)) text = ⊥
IsRead (Err (NotTheMap k)) text = ⊥
IsRead (Err OutOfMemory) text = length text ≤ most_bytes
