-- The words of a summary: who takes part in executions, and how many of these have so many
-- participants.
use Rattle.std.specs.Prelude.{ℕ, ◌==◌, Bool, true, false, List, [], ◌∷◌, ◌++◌, codes, decimal, if◌then◌else◌}
use Rattle.wf_model.specs.PointsText.{process_text}
use Rattle.wf_report_explain.specs.Words.Text.{list_text}
use Rattle.wf_report_explain.specs.declared.words.summary.SizeCount.{SizeCount}

-- one process, two processes and so on, up to four
abbrev pub processes_text : ℕ → List ℕ
processes_text n =
    if n == 1 then codes "one process"
    else if n == 2 then codes "two processes"
    else if n == 3 then codes "three processes"
    else codes "four processes"

-- 2 of three processes
abbrev pub size_text : SizeCount → List ℕ
size_text x = decimal x.count ++ (codes " of " ++ processes_text x.size)

-- the last of these sizes, which is the largest if they ascend
abbrev pub last_size : List SizeCount → ℕ
last_size [] = 0
last_size (x ∷ []) = x.size
last_size (x ∷ y ∷ more) = last_size (y ∷ more)

-- p0, p1 and p2; or at most three processes, if processes go by their ranks
abbrev pub whose_text : Bool → List ℕ → List SizeCount → List ℕ
whose_text false processes sizes = list_text (process_text false) (codes ", ") (codes " and ") processes
whose_text true processes sizes = codes "at most " ++ processes_text (last_size sizes)

-- of p0, p1 and p2: 1 of one process, 2 of three processes; and nothing if there is no execution
abbrev pub about_text : Bool → List ℕ → List SizeCount → List ℕ
about_text ranks processes [] = []
about_text ranks processes (x ∷ sizes) =
    codes " of " ++ (whose_text ranks processes (x ∷ sizes) ++ (codes ": " ++ list_text size_text (codes ", ") (codes ", ") (x ∷ sizes)))
