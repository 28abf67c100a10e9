-- Lines that are none of a report, and what a line at the front says.
use Rattle.std.specs.Prelude.{◌≡◌, ◌<◌, ◌+◌, ◌⊎◌, ℕ, true, List, [], ◌∷◌, length, Option, Some, None, Err, codes, if◌then◌else◌}
use Rattle.wf_model.specs.Report.{same_text}
use Rattle.wf_report.specs.Reading.{lacks}
use Rattle.wf_report.specs.declared.front.AnswerKind.{AnswerKind}
use Rattle.wf_report.specs.declared.front.AnswerKind.TheVariants.{Map, Nothing, Least}
use Rattle.wf_report.specs.Reads.{Parse}
use Rattle.wf_report.specs.Windows.{longest_line}

-- a line without a line feed, or a longer one than any of a report
abbrev pub IsBadLine : List ℕ → Type 0
IsBadLine l = (lacks 10 l ≡ true) ⊎ ((longest_line + 1) < length l)

-- where the first line is bad, or there is none, line k is
pub record FailsAt (k : ℕ) (parse : Parse) : Type 0 where
  pub nothing : parse [] ≡ Err k
  pub bad : (l : List ℕ) (ls : List (List ℕ)) → IsBadLine l → parse (l ∷ ls) ≡ Err k

-- the answer of a line without its line feed
abbrev pub answer_of : List ℕ → Option AnswerKind
answer_of l =
    if same_text l (codes "answer map") then Some Map
    else (if same_text l (codes "answer none") then Some Nothing
    else (if same_text l (codes "answer least") then Some Least else None))
