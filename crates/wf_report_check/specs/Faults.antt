-- Which refusal of the definitions each refusal of a report is.
use Rattle.std.specs.Prelude.{◌≡◌, List, Result, Ok, Err, Option, Some, None}
use Rattle.wf_model.specs.Box.{Box}
use Rattle.wf_model.specs.Check.{Refusal, wrong_header, wrong_length, violates, no_such, unsound, not_empty, not_open, unfinished, trailing, not_first, not_the_map, Verdict, fault, left}
use Rattle.wf_report.specs.declared.fault.CertFault.{CertFault}
use Rattle.wf_report.specs.declared.fault.CertFault.TheVariants.{TooLong, Syntax, Header, MapLength, Violates, NoSuch, Unsound, NotEmpty, NotOpen, Unfinished, Trailing, NotFirst, NotTheMap, OutOfMemory}

-- the refusal is the one that the definitions answer; nothing is said where memory ran out
abbrev pub Fails : CertFault → Option Refusal → Type 0
Fails TooLong answer = ⊥
Fails (Syntax k) answer = ⊥
Fails (Header k) answer = answer ≡ Some (wrong_header k)
Fails MapLength answer = answer ≡ Some wrong_length
Fails (Violates e) answer = answer ≡ Some (violates e)
Fails (NoSuch k) answer = answer ≡ Some (no_such k)
Fails (Unsound k) answer = answer ≡ Some (unsound k)
Fails (NotEmpty k) answer = answer ≡ Some (not_empty k)
Fails (NotOpen k) answer = answer ≡ Some (not_open k)
Fails Unfinished answer = answer ≡ Some unfinished
Fails (Trailing k) answer = answer ≡ Some (trailing k)
Fails (NotFirst k) answer = answer ≡ Some (not_first k)
Fails (NotTheMap k) answer = answer ≡ Some (not_the_map k)
Fails OutOfMemory answer = Unit {0}

-- what is answered about a report is its first fault, or that it has none
abbrev pub Judges : {X : Type 0} → Result X CertFault → Option Refusal → Type 0
Judges (Ok x) answer = answer ≡ None
Judges (Err e) answer = Fails e answer

-- the verdict is this fault
abbrev pub IsFault : CertFault → Verdict → Type 0
IsFault TooLong v = ⊥
IsFault (Syntax k) v = ⊥
IsFault (Header k) v = ⊥
IsFault MapLength v = ⊥
IsFault (Violates e) v = ⊥
IsFault (NoSuch k) v = v ≡ fault (no_such k)
IsFault (Unsound k) v = v ≡ fault (unsound k)
IsFault (NotEmpty k) v = v ≡ fault (not_empty k)
IsFault (NotOpen k) v = v ≡ fault (not_open k)
IsFault Unfinished v = ⊥
IsFault (Trailing k) v = ⊥
IsFault (NotFirst k) v = v ≡ fault (not_first k)
IsFault (NotTheMap k) v = v ≡ fault (not_the_map k)
IsFault OutOfMemory v = Unit {0}

-- a line's verdict is this fault, or the boxes that are left by what is
-- answered; nothing is said where memory ran out
abbrev pub Steps : {X : Type 0} → Result X CertFault → Verdict → (X → List Box) → Type 0
Steps (Ok x) v boxes = v ≡ left (boxes x)
Steps (Err e) v boxes = IsFault e v
