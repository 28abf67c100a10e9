-- From what the parser finds to what the words ask for.
use Rattle.std.proofs.Common.{◌≡◌, ◌≢◌, refl, sym, subst, List, [], ◌∷◌, Bool, Option, Some, Result, Ok, Err, true, false, inl, inr, ◌&&◌}
use Rattle.std.specs.Prelude.{string_bytes}
use Rattle.clap.specs.Words.{App, HasKind, IsAmong, Kinds, Text, fault_of, is_simple, is_simple_and_free, kind_of}
use Rattle.clap.specs.declared.error.Error.{Error}
use Rattle.clap.specs.declared.error.ErrorKind.TheVariants as kind
use Rattle.wf_cli.specs.Words.Asked.{Answers, Asked, IsFault, IsJob, IsRefusal, Path, judged, on_path, on_task}
use Rattle.wf_cli.specs.declared.words.fault.WordsFault.{WordsFault}
use Rattle.wf_cli.specs.declared.words.fault.WordsFault.TheVariants as fault
use Rattle.wf_cli.specs.declared.words.mistake.UsageError.{UsageError}

-- ---- the parser

first : (a b : Bool) → a && b ≡ true → a ≡ true
first true b e = refl
first false b e = e

pub simple_of : (app : App) → is_simple_and_free app ≡ true → is_simple app ≡ true
simple_of app e = first (is_simple app) _ e

pub refuses : (app : App) (words : List Text) (e : Error) → HasKind (fault_of app words) e
    → kind_of e ≢ kind.OutOfMemory → IsAmong (kind_of e) (fault_of app words) × (kind_of e ≢ kind.OutOfMemory)
refuses app words e (inl same) other = absurd (other same)
refuses app words e (inr h) other = (h, other)

-- ---- the whole answer

refusal : {J : Type 0} (kinds : Kinds) (negative : Bool) (asked : Asked J) (e : WordsFault) → IsRefusal kinds negative e
    → IsFault (judged kinds negative asked) e
refusal kinds negative asked fault.OutOfMemory h = tt
refusal kinds negative asked (fault.Words s) h = absurd h
refusal [] negative asked (fault.Clap e n) h = absurd h.0
refusal (k ∷ ks) negative asked (fault.Clap e n) h = h

-- words that are refused, whatever they would ask for
pub refused_answered : {J : Type 0} (kinds : Kinds) (negative : Bool) (asked : Asked J) (e : WordsFault) → IsRefusal kinds negative e
    → Answers (judged kinds negative asked) (Err e)
refused_answered kinds negative asked e h = refusal kinds negative asked e h

-- words that are taken
pub taken_answered : {J : Type 0} (kinds : Kinds) (negative : Bool) (asked : Asked J) (result : Result J WordsFault) → kinds ≡ []
    → Answers asked result → Answers (judged kinds negative asked) result
taken_answered kinds negative asked result taken h = subst (λ ks. Answers (judged ks negative asked) result) (sym taken) h

-- ---- jobs about the task in a file

pub on_file : {X J : Type 0} (job : X → Path → J) (asked : Result X UsageError) (named : Option Text) (what : X) (path : Text) (task : Path) → Ok what ≡ asked → Some path ≡ named
    → string_bytes task ≡ path → IsJob (on_task job asked named) (job what task)
on_file job asked named what path task made is bytes =
    subst (λ f. IsJob (on_task job asked f) (job what task)) is (subst (λ r. IsJob (on_path job r path) (job what task)) made (task, bytes, refl))
