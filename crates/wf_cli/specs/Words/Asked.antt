-- What words ask for, and what is answered.
--
-- How words are read is said by definitions of the crate that reads them: `fault_of` has the kinds
-- of error that the words may get, which is none where they are taken; `matches_of` has a row for
-- each option that is given.
use Rattle.std.specs.Prelude.{◌≡◌, ◌≢◌, Bool, false, List, [], ◌∷◌, Option, Some, None, Result, Ok, Err, Vec, String, map, string_bytes, nat_le, ◌==◌, ◌&&◌}
use Rattle.std.specs.declared.alloc.Global.{Global}
use Rattle.clap.specs.Words.{App, IsAmong, Kinds, Text, fault_of, found_of, kind_of, matches_of, rows_of, subcommand_of, subcommand_rows_of}
use Rattle.clap.specs.declared.parser.matches.ArgMatches.{ArgMatches}
use Rattle.clap.specs.declared.error.ErrorKind.TheVariants as kind
use Rattle.wf_cli.specs.declared.words.fault.WordsFault.{WordsFault}
use Rattle.wf_cli.specs.declared.words.fault.WordsFault.TheVariants as fault
use Rattle.wf_cli.specs.declared.words.mistake.ArgName.{ArgName}
use Rattle.wf_cli.specs.declared.words.mistake.ArgName.TheVariants as piece
use Rattle.wf_cli.specs.declared.words.mistake.UsageError.{UsageError}
use Rattle.wf_cli.specs.declared.words.mistake.UsageError.TheVariants as mistake

abbrev pub Path : Type 0
Path = String Global

-- What words ask for: a job, or one about the task in the file of this path; or none, by this
-- mistake. Or they are refused, or answered with help or the version, by an error of one of these
-- kinds; and whether one of them is a negative number.
pub data Asked (J : Type 0) : Type 0 where
  this_job : J → Asked J
  this_job_on : Text → (Path → J) → Asked J
  no_job : UsageError → Asked J
  refused : Kinds → Bool → Asked J

-- what is asked with an option that may not be left out; where it is not given, that is the mistake
abbrev pub needed : {X J : Type 0} → ArgName → Option X → (X → Asked J) → Asked J
needed what (Some x) asks = asks x
needed what None asks = no_job (mistake.Missing what)

-- something is asked about the task in the file of this path, or there is a mistake
abbrev pub on_path : {X J : Type 0} → (X → Path → J) → Result X UsageError → Text → Asked J
on_path job (Ok what) path = this_job_on path (job what)
on_path job (Err s) path = no_job s

-- about the task in the file that is named, if one is
abbrev pub on_task : {X J : Type 0} → (X → Path → J) → Result X UsageError → Option Text → Asked J
on_task job asked named = needed piece.Task named (on_path job asked)

-- ---- the words

-- a minus, and then a digit
abbrev pub is_negative : Text → Bool
is_negative (sign ∷ digit ∷ rest) = (sign == 45) && (nat_le 48 digit && nat_le digit 57)
is_negative text = false

-- what is asked by words that are taken; those that are not are refused
abbrev pub judged : {J : Type 0} → Kinds → Bool → Asked J → Asked J
judged [] negative asked = asked
judged (k ∷ ks) negative asked = refused (k ∷ ks) negative

-- the words are taken, and these are the options that they give, with those of the subcommand that
-- they name
abbrev pub IsTaken : App → List Text → ArgMatches → Type 0
IsTaken app words m =
    (fault_of app words ≡ []) × (rows_of (found_of m) ≡ matches_of app words) × (subcommand_rows_of m ≡ subcommand_of app words)

-- ---- the answer

-- a job is the one that is asked for
abbrev pub IsJob : {J : Type 0} → Asked J → J → Type 0
IsJob (this_job asked) j = j ≡ asked
IsJob (this_job_on path asked) j = (task : Path) × (string_bytes task ≡ path) × (j ≡ asked task)
IsJob (no_job mistake) j = ⊥
IsJob (refused kinds negative) j = ⊥

-- `clap` refuses words by an error that may come, and it is told whether one
-- of them is a negative number
abbrev pub IsRefusal : Kinds → Bool → WordsFault → Type 0
IsRefusal kinds negative fault.OutOfMemory = Unit {0}
IsRefusal kinds negative (fault.Words s) = ⊥
IsRefusal kinds negative (fault.Clap e n) = IsAmong (kind_of e) kinds × (kind_of e ≢ kind.OutOfMemory) × (n ≡ negative)

-- A fault is the one of these words: the mistake by which there is no job, or the error has a kind
-- that may come. Memory may run out at any words, and is no error of words.
abbrev pub IsFault : {J : Type 0} → Asked J → WordsFault → Type 0
IsFault asked fault.OutOfMemory = Unit {0}
IsFault (no_job mistake) (fault.Words s) = s ≡ mistake
IsFault (refused kinds negative) (fault.Clap e n) = IsRefusal kinds negative (fault.Clap e n)
IsFault asked e = ⊥

abbrev pub Answers : {J : Type 0} → Asked J → Result J WordsFault → Type 0
Answers asked (Ok j) = IsJob asked j
Answers asked (Err e) = IsFault asked e

-- ---- words that may not be had

-- the words of a command line, or why they could not be had
abbrev pub GivenWords : Type 0
GivenWords = Result (Vec (String Global) Global) WordsFault

-- the job that the words ask for, or why there is none; where the words could
-- not be had, that is why
abbrev pub IsAsked : {J : Type 0} → (List Text → Asked J) → GivenWords → Result J WordsFault → Type 0
IsAsked job_asked (Ok words) asked = Answers (job_asked (map string_bytes words.items)) asked
IsAsked job_asked (Err e) asked = asked ≡ Err e
