-- What is printed of a refusal.
use Rattle.std.specs.Prelude.{ℕ, List, ◌++◌, Option, None, Some, codes, decimal}
use Rattle.wf_report.specs.declared.fault.CertFault.{CertFault}
use Rattle.wf_report.specs.declared.fault.CertFault.TheVariants.{TooLong, Syntax, Header, MapLength, Violates, NoSuch, Unsound, NotEmpty, NotOpen, Unfinished, Trailing, NotFirst, NotTheMap, OutOfMemory}

abbrev pub fault_text : CertFault → List ℕ
fault_text TooLong = codes "1 TooLong"
fault_text (Syntax k) = codes "20 Syntax " ++ decimal k
fault_text (Header k) = codes "21 Header " ++ decimal k
fault_text MapLength = codes "22 MapLength"
fault_text (Violates e) = codes "23 Violates " ++ decimal e
fault_text (NoSuch k) = codes "24 NoSuch " ++ decimal k
fault_text (Unsound k) = codes "25 Unsound " ++ decimal k
fault_text (NotEmpty k) = codes "26 NotEmpty " ++ decimal k
fault_text (NotOpen k) = codes "27 NotOpen " ++ decimal k
fault_text Unfinished = codes "28 Unfinished"
fault_text (Trailing k) = codes "29 Trailing " ++ decimal k
fault_text (NotFirst k) = codes "34 NotFirst " ++ decimal k
fault_text (NotTheMap k) = codes "35 NotTheMap " ++ decimal k
fault_text OutOfMemory = codes "15 OutOfMemory"

-- a name, and the number that stands behind it
abbrev pub printed : List ℕ → Option ℕ → List ℕ
printed name None = name
printed name (Some place) = name ++ codes " " ++ decimal place
